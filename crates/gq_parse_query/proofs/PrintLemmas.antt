-- PrintLemmas: a value with its key, given what was found of each.
use Rattle.std.proofs.Common.{◌≡◌, ℕ, List, drop, Option, Some, None, refl, ap, ◌∙◌, arith}
use Rattle.gq_tree.specs.declared.expr.Node.{Node}
use Rattle.gq_tree.specs.declared.body.Label.{Label}
use Rattle.gq_tree.specs.declared.body.Label.TheVariants as label
use Rattle.gq_grammar.specs.Bodies.{labelled}
use Rattle.gq_grammar.specs.Lexemes.{Lexemes}
use Rattle.gq_grammar.specs.Reading.{between}
use Rattle.gq_grammar.specs.Series.{joined}
use Rattle.gq_grammar.specs.Parsers.{Found, and_then, maybe_at, maybe}
use Rattle.gq_grammar.proofs.SeriesLemmas.{kept_found, kept_missing}
use Rattle.gq_parse_common.specs.Expression.{expression}
use Rattle.gq_parse_select.specs.Bodies.{as_name_parser, labelled_parser}

abbrev keyed : Option ((Node × List ℕ) × Lexemes) → Option ((Node × Label) × Lexemes)
keyed o = and_then (and_then o (λ a r. and_then (maybe as_name_parser r) (λ b s. Some ((a, b), s)))) (λ a r. Some (labelled a, r))

abbrev named_or_not : Node × List ℕ → Lexemes → Option (List ℕ × Lexemes) → Option ((Node × Label) × Lexemes)
named_or_not a r o = and_then (and_then (maybe_at o r) (λ b s. Some ((a, b), s))) (λ a r. Some (labelled a, r))

pub no_value : (all : Lexemes) (at : ℕ) → Found expression all at None → Found labelled_parser all at None
unfolding labelled_parser
no_value all at f = ap keyed (kept_missing expression all at f)

pub named_value : (all : Lexemes) (at next end : ℕ) (value : Node) (name : List ℕ) → Found expression all at (Some (value, next)) → Found as_name_parser all next (Some (name, end))
    → Found labelled_parser all at (Some ((value, label.Named name), end))
unfolding labelled_parser
named_value all at next end value name f g =
    let text : List ℕ = joined (between all at next) in (
      ap keyed (kept_found expression all at value next text f refl).0 ∙ ap (named_or_not (value, text) (drop next all)) g.0,
      omega (arith, f.1, g.1),
      g.2,
    )

pub spelled_value : (all : Lexemes) (at next : ℕ) (value : Node) (text : List ℕ) → Found expression all at (Some (value, next)) → Found as_name_parser all next None → text ≡ joined (between all at next)
    → Found labelled_parser all at (Some ((value, label.Spelled text), next))
unfolding labelled_parser
spelled_value all at next value text f g e =
    (ap keyed (kept_found expression all at value next text f e).0 ∙ ap (named_or_not (value, text) (drop next all)) g, f.1, f.2)

pub ruleset labels = (no_value, named_value, spelled_value)
