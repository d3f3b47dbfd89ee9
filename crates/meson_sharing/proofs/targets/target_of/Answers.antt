use Rattle.std.proofs.Common.{◌≡◌, List, ap, ap₂, sym, ◌∙◌}
use Rattle.std.specs.Prelude.{ℕ, Option, Some, option_map, string_bytes}
use Rattle.meson_lex.specs.declared.kinds.Span.{Span}
use Rattle.meson_syntax.specs.declared.operator.Bracket.TheVariants as bracket
use Rattle.meson_syntax.specs.View.{list_view}
use Rattle.meson_calls.specs.Calls.{first_literal}
use Rattle.meson_calls.specs.ChosenNotes.{call_with}
use Rattle.meson_calls.proofs.Nested.{good_listing}
use Rattle.meson_following.specs.Following.{Mark}
use Rattle.meson_sharing.specs.CodeTargets.{Target}
use Rattle.meson_sharing.proofs.targets.target_of.Goals as goal
use Rattle.meson_sharing.proofs.targets.target_of.Goals.{in-Some, in-None}

pub marks_of-requires-clause-good : goal.marks_of-requires-clause-good
marks_of-requires-clause-good c = good_listing (list_view c.args.source.now c.args.arguments.now) bracket.Round c.requires.good

pub returns : goal.returns
returns c = λ function.
    let name : c.match-branch-3.name ≡ first_literal (call_with function (list_view c.args.source.now c.args.arguments.now)) =
    elim c.match-branch-3.branch [
      | in-Some w ↦ w.name-is ∙ ap Some w.of.ensures ∙ ap (option_map string_bytes) (sym w.in-Some.is) ∙ c.in_ok-text.ensures function
      | in-None w ↦ w.name-is ∙ ap (option_map string_bytes) (sym w.in-None.is) ∙ c.in_ok-text.ensures function
    ] in
    let of : Option (List ℕ) → List (Mark Span) → Target = λ n ms. record { place = c.args.place; name = n; marks = ms } in
    ap₂ of name (c.in_ok-marks.ensures function)
