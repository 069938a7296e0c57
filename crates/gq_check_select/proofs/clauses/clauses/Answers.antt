use Rattle.std.proofs.Common.{rules, ◌∙◌, ap, sym, Bool}
use Rattle.gq_rules_typing.specs.Statements.{Bytes}
use Rattle.gq_rules_typing.specs.Judging.{◌>>◌}
use Rattle.gq_rules_typing.specs.ExpressionTypes.{number}
use Rattle.gq_rules_typing.specs.Scopes.{Scope, InPost, InTail, InLimit, names_at}
use Rattle.gq_rules_typing.specs.SelectTypes.{optional}
use Rattle.gq_rules_typing.specs.SelectViews.{view_select}
use Rattle.gq_scope.specs.Held.{scope_in}
use Rattle.gq_check_from.proofs.ScopeLemmas.{judged_by}
use Rattle.gq_check_select.specs.Selects.{changes, tail}
use Rattle.gq_check_select.proofs.PlaceLemmas.{place_free}
use Rattle.gq_check_select.proofs.clauses.clauses.Goals as goal

pub returns-in_err-tail-clause-judged : goal.returns-in_err-tail-clause-judged
returns-in_err-tail-clause-judged c =
    let s = scope_in c.args.scope.now in
    let q = view_select c.args.query.now in
    let behind = ap scope_in c.in_ok-changes.ensures.placed ∙ place_free c.args.scope.now InPost in
    judged_by {A = Bool} {B = Unit {0}} _ _ _ c.from_residual-in_err-tail.result
    (ap (λ (t : Scope Bytes). changes s q >> tail t q.selected q.having q.order >> optional (number (names_at s InLimit)) q.limit) (sym behind)
    ∙ ap (λ (x : Bytes). changes s q >> tail (scope_in c.changes.new.scope) x q.having q.order >> optional (number (names_at s InLimit)) q.limit) (sym c.as_str.ensures))
    (search rules)

pub returns-in_err-limit-clause-judged : goal.returns-in_err-limit-clause-judged
returns-in_err-limit-clause-judged c =
    let s = scope_in c.args.scope.now in
    let q = view_select c.args.query.now in
    let behind = ap scope_in c.in_ok-changes.ensures.placed ∙ place_free c.args.scope.now InPost in
    judged_by {A = Bool} {B = Unit {0}} _ _ _ c.from_residual-in_err-limit.result
    (ap (λ (t : Scope Bytes). changes s q >> tail t q.selected q.having q.order >> optional (number (names_at s InLimit)) q.limit) (sym behind)
    ∙ ap (λ (x : Bytes). changes s q >> tail (scope_in c.changes.new.scope) x q.having q.order >> optional (number (names_at s InLimit)) q.limit) (sym c.as_str.ensures)
    ∙ ap (λ (t : Scope Bytes). changes s q >> tail (scope_in c.changes.new.scope) c.as_str.result.now q.having q.order >> optional (number (names_at t InLimit)) q.limit)
    (sym (ap scope_in c.in_ok-tail.ensures.placed ∙ place_free c.changes.new.scope (InTail c.as_str.result.now) ∙ behind)))
    (search rules)
