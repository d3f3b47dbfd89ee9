use Rattle.std.proofs.Common.{◌≡◌, Err, sym, ap, ◌∙◌, subst}
use Rattle.std.specs.Prelude.{◌≢◌, MatchResult, if◌then◌else◌}
use Rattle.meson_syntax.specs.View.{expr_view}
use Rattle.meson_calls.specs.declared.refusal.Refusal.TheVariants.{OutOfMemory, ThereAlready, TooDeep}
use Rattle.meson_steps.specs.Meanings.{AreMeant}
use Rattle.meson_places.specs.AssignedValues.{assigned_if, assigned_roomy}
use Rattle.meson_places.specs.Equality.{says}
use Rattle.meson_places.specs.Removals.{says_other}
use Rattle.meson_places.specs.Replacements.{exchange, replace_assigned}
use Rattle.meson_places.specs.Values.{written_given}
use Rattle.meson_places.proofs.Meant.{made_of}
use Rattle.meson_places.proofs.replacements.replace_assigned.Goals as goal

pub returns : goal.returns
returns c = record {
  made = λ may.
      let was = c.args.pair.old.now in
      let new = c.args.pair.new.now in
      let w = written_given new may in
      let x = exchange was new may in
      let key = c.args.keyed.key.now in
      let source = c.args.keyed.source.now in
      let at_ = c.args.place.now in
      let e = expr_view source c.args.keyed.value.now in
      let whole : replace_assigned key source x at_ e ≡ assigned_if key at_ new w =
      ap (λ a. if a then Err ThereAlready else (if says source was e then assigned_roomy key at_ new w else Err (says_other key e))) (sym c.in_ok-says.ensures ∙ c.if-branch.false)
      ∙ ap (λ b. if b then assigned_roomy key at_ new w else Err (says_other key e)) (sym c.in_ok-says-2.ensures ∙ c.if-not-branch.false)
      ∙ ap (λ b. if b then assigned_if key at_ new w else Err TooDeep) (sym (c.in_ok-assigned_room.ensures may) ∙ c.if-not-branch-2.false) in
      subst (λ m. MatchResult c.assign_steps.result (λ steps. AreMeant m steps.items) (λ f. f ≢ OutOfMemory → m ≡ Err f)) (sym whole)
      (made_of _ _ c.assign_steps.result (c.assign_steps.ensures.meant may) (c.assign_steps.ensures.refused w));
}
