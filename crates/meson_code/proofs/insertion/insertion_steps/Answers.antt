use Rattle.std.proofs.Common.{◌≡◌, true, [], ◌∷◌, ◌++◌, Some, Ok, Err, sym, ap, ◌∙◌, if◌then◌else◌}
use Rattle.std.specs.Prelude.{map}
use Rattle.meson_splice.specs.Patch.{then_ok}
use Rattle.meson_calls.specs.declared.refusal.Refusal.TheVariants.{TooDeep}
use Rattle.meson_steps.specs.declared.step.ListEdit.TheVariants as code_edit
use Rattle.meson_places.specs.Names.{loaded_in}
use Rattle.meson_code.specs.Insertion.{code_statements, has_room, inserted_if_room, insertion_step}
use Rattle.meson_code.proofs.InsertionsDoable.{insertion_doable, spot_there, step-bare}
use Rattle.meson_code.proofs.insertion.insertion_steps.Goals as goal

pub returns-clause-plan : goal.returns-clause-plan
returns-clause-plan c =
    let l = loaded_in c.args.sources in
    let lines = c.in_ok-lines.lines in
    let p = c.args.insertion.place.now in
    let code = c.args.insertion.code.now in
    let blank = c.args.insertion.blank in
    let step = insertion_step l lines code blank in
    let spot = spot_there l c.requires (code_statements code) p lines c.in_ok-lines.ensures.found in
    let room : has_room lines (code_statements code) ≡ true = sym c.in_ok-has_room.ensures.room ∙ c.if-not-branch.false in
    record {
      steps = step ∷ [];
      are_planned = ap (λ r. then_ok r (inserted_if_room l code blank)) c.in_ok-lines.ensures.found ∙ ap (λ b. if b then Ok (step ∷ []) else Err TooDeep) room;
      are_doable = record {
        bare = ap (λ s. s ∷ []) (step-bare l lines code blank spot.is_path c.in_ok-text.text c.in_ok-text.ensures)
            ∙ sym (ap (map Some) (c.in_ok-push_step.ensures.added ∙ ap (λ t. t ++ record { list = lines.block; edit = code_edit.Lines lines.side c.in_ok-text.text } ∷ []) c.new-steps.ensures.items));
        doable = insertion_doable l c.requires lines code c.in_ok-has_room.ensures.code blank spot room;
      };
    }
