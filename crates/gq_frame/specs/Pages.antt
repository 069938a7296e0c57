-- Pages: the contents of all targets in pages, which copies share.
-- Every page is full but the last one. What is shared, a page or a content by itself, fits, so it is never judged again.
use Rattle.std.specs.Prelude.{◌≡◌, ◌≤◌, ℕ, ◌-◌, ℤ, Bool, true, false, List, [], ◌∷◌, ◌++◌, map, length, slice_get, slice_set, Some}
use Rattle.std.specs.Arc.{arc_value}
use Rattle.gq_value.specs.Val.{Val, Int}
use Rattle.gq_value.specs.Accums.{Given, One}
use Rattle.gq_accum_laws.specs.Fits.{fits}
use Rattle.gq_nest.specs.declared.content.Content.{Content, out-Content}
use Rattle.gq_nest.specs.Entries.{every}
use Rattle.gq_nest.specs.Forms.{Feeds}
use Rattle.gq_nest.specs.Shows.{ShowsTheSame, TakesInput}
use Rattle.gq_nest.specs.Tells.{CanBeSet, IsSet, Tells}
use Rattle.gq_frame.specs.declared.page.Page.{Page}
use Rattle.gq_frame.specs.declared.page.Page.TheVariants as page
use Rattle.gq_frame.specs.declared.single.Single.{Single}
use Rattle.gq_frame.specs.declared.single.Single.TheVariants as single
use Rattle.gq_frame.specs.Targets.{ShowTheSame}

-- ---- a content by itself

abbrev pub content_of : Single → Content
content_of (single.Own content) = content
content_of (single.Shared shared) = arc_value shared

-- a shared content fits
abbrev pub IsHeld : Single → Type 0
IsHeld (single.Own content) = Unit {0}
IsHeld (single.Shared shared) = Tells (arc_value shared) true fits

-- a content that shows the same, which may be shared if the old one could be
pub record SharesContent (old new : Single) : Type 0 where
  pub same : ShowsTheSame (content_of old) (content_of new)
  pub held : IsHeld old → IsHeld new

-- a content that shows the same, and that nothing else refers to
pub record IsOwnContent (old new : Single) : Type 0 where
  pub content : Content
  pub owned : new ≡ single.Own content
  pub same : ShowsTheSame (content_of old) content

-- the content becomes one that is related in this way to one that shows the same
pub record Becomes (related : Content → Content → Type 0) (old new : Single) : Type 0 where
  pub was : Content
  pub same : ShowsTheSame (content_of old) was
  pub becomes : related was (content_of new)

-- one content more, which shows the same
pub record AddsSame (c : Content) (old new : List Content) : Type 0 where
  pub copy : Content
  pub added : new ≡ old ++ copy ∷ []
  pub same : ShowsTheSame c copy

-- ---- contents one by one

abbrev pub each_of : List Single → List Content
each_of singles = map content_of singles

abbrev pub AreHeld : List Single → Type 0
AreHeld = every IsHeld

-- contents that show the same, which may be shared if the old ones could be
pub record SharesContents (old new : List Single) : Type 0 where
  pub same : ShowTheSame (each_of old) (each_of new)
  pub held : AreHeld old → AreHeld new

-- the same contents, which may now be shared
pub record SealsContents (old new : List Single) : Type 0 where
  pub same : each_of new ≡ each_of old
  pub held : AreHeld old → AreHeld new

-- ---- one page

abbrev pub page_size : ℕ
page_size = 128

abbrev pub items_of : Page → List Content
items_of (page.Own items) = items
items_of (page.Shared shared) = arc_value shared
items_of (page.Loose singles) = each_of singles

-- each content fits
abbrev pub AllFit : List Content → Type 0
AllFit = every (λ c. Tells c true fits)

-- a shared page is full, and each content that is shared fits
abbrev pub IsKept : Page → Type 0
IsKept (page.Own items) = Unit {0}
IsKept (page.Shared shared) = (length (arc_value shared) ≡ page_size) × AllFit (arc_value shared)
IsKept (page.Loose singles) = AreHeld singles

-- a page whose contents aren't shared one by one
abbrev pub IsWhole : Page → Type 0
IsWhole (page.Own items) = Unit {0}
IsWhole (page.Shared shared) = Unit {0}
IsWhole (page.Loose singles) = ⊥

-- a page with as many contents, which may be shared if the old one could be
pub record Keeps (old new : Page) : Type 0 where
  pub count : length (items_of new) ≡ length (items_of old)
  pub kept : IsKept old → IsKept new

-- a page whose contents show the same
pub record Shares (old new : Page) : Type 0 where
  pub same : ShowTheSame (items_of old) (items_of new)
  pub kept : IsKept old → IsKept new

-- a page that isn't shared as a whole
abbrev pub IsApart : Page → Type 0
IsApart (page.Own items) = Unit {0}
IsApart (page.Shared shared) = ⊥
IsApart (page.Loose singles) = Unit {0}

-- the same, as a page that isn't shared as a whole
pub record IsOwnCopy (old new : Page) : Type 0 where
  pub apart : IsApart new
  pub same : ShowTheSame (items_of old) (items_of new)
  pub kept : IsKept old → IsKept new

-- a page with the same contents, which may now be shared
pub record Seals (old new : Page) : Type 0 where
  pub same : items_of new ≡ items_of old
  pub kept : IsKept old → IsKept new

-- ---- all pages

-- the contents of all pages, in order
abbrev pub contents_of : List Page → List Content
contents_of [] = []
contents_of (p ∷ ps) = items_of p ++ contents_of ps

-- the last page isn't too full, and any other is full
abbrev pub IsFilled : Page → List Page → Type 0
IsFilled p [] = length (items_of p) ≤ page_size
IsFilled p (q ∷ ps) = length (items_of p) ≡ page_size

abbrev pub ArePages : List Page → Type 0
ArePages [] = Unit {0}
ArePages (p ∷ ps) = IsKept p × IsFilled p ps × ArePages ps

-- the last page has no room
abbrev pub IsFull : List Page → Type 0
IsFull ps = (p : Page) → slice_get ps (length ps - 1) ≡ Some p → page_size ≤ length (items_of p)

-- page by page
abbrev pub ShareEach : List Page → List Page → Type 0
ShareEach [] [] = Unit {0}
ShareEach (p ∷ ps) (q ∷ qs) = Shares p q × ShareEach ps qs
ShareEach _ _ = ⊥

abbrev pub SealEach : List Page → List Page → Type 0
SealEach [] [] = Unit {0}
SealEach (p ∷ ps) (q ∷ qs) = Seals p q × SealEach ps qs
SealEach _ _ = ⊥

-- ---- many contents that are alike

-- a full page
abbrev pub IsFullPage : Page → Type 0
IsFullPage p = IsKept p × (length (items_of p) ≡ page_size)

-- a full page of contents that show what this one shows
pub record IsFullOf (c : Content) (p : Page) : Type 0 where
  pub full : IsFullPage p
  pub like : every (ShowsTheSame c) (items_of p)

-- a page more, whose contents show what this one's show
pub record AddsCopy (p : Page) (old new : List Page) : Type 0 where
  pub more : List Content
  pub added : contents_of new ≡ contents_of old ++ more
  pub same : ShowTheSame (items_of p) more

-- so many contents more, each of which shows what this one shows
pub record Fills (c : Content) (count : ℕ) (old new : List Content) : Type 0 where
  pub more : List Content
  pub added : new ≡ old ++ more
  pub many : length more ≡ count
  pub like : every (ShowsTheSame c) more

-- the contents of a copy of the page, or nothing
abbrev pub PushesPage : Page → Bool → List Content → List Content → Type 0
PushesPage p true old new = (c : Content) → IsFullOf c p → Fills c page_size old new
PushesPage p false old new = new ≡ old

-- ---- changes

-- the content at an index becomes one that is related to it in this way; the others show what they showed
pub record ChangesAt (related : Content → Content → Type 0) (at : ℕ) (old new : List Content) : Type 0 where
  pub middle : List Content
  pub same : ShowTheSame old middle
  pub was : Content
  pub now : Content
  pub stood : slice_get middle at ≡ Some was
  pub becomes : related was now
  pub contents : new ≡ slice_set middle at now

abbrev pub Takes : Given → Content → Content → Type 0
Takes x was now = TakesInput was x now

abbrev pub TakesInt : ℤ → Content → Content → Type 0
TakesInt x was now = Feeds (out-Content was) (One (Int x)) (out-Content now)

abbrev pub SetsTo : Val → Content → Content → Type 0
SetsTo v was now = IsSet was v now

-- the content at an index can be set to a value
abbrev pub AllowsAt : Val → ℕ → List Content → Type 0
AllowsAt v at cs = (c : Content) → slice_get cs at ≡ Some c → CanBeSet c v
