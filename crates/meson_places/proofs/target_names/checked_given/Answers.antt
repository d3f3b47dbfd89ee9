use Rattle.std.proofs.Common.{◌≡◌, ℕ, List, ap, ◌∙◌}
use Rattle.std.proofs.lemmas.Result.{IfOk-weaker}
use Rattle.meson_lex.specs.declared.kinds.Span.{Span}
use Rattle.meson_calls.specs.declared.call.CallRef.{CallRef}
use Rattle.meson_calls.specs.Loading.{project}
use Rattle.meson_calls.specs.Project.{Project}
use Rattle.meson_steps.specs.declared.given.Given.{Given}
use Rattle.meson_steps.specs.declared.given.Given.TheVariants as given
use Rattle.meson_places.specs.declared.slots.Slot.{Slot}
use Rattle.meson_places.specs.declared.slots.Slot.TheVariants as slot
use Rattle.meson_places.specs.Names.{loaded_in}
use Rattle.meson_places.specs.TargetNames.{checked_given, checked_text}
use Rattle.meson_places.proofs.Refused.{refused_as}
use Rattle.meson_places.proofs.target_names.checked_given.Goals as goal

of_text : (p : Project Span) (key : List ℕ) (g : Given) (s : Slot) (text : List ℕ) (list : CallRef) (n : ℕ) → g ≡ given.Text text → s ≡ slot.Element list n
    → checked_given p key g s ≡ checked_text p key text list
of_text p key g s text list n b d = ap (λ h. checked_given p key h s) b ∙ ap (checked_given p key (given.Text text)) d

pub returns-in-Element-clause-checked : goal.returns-in-Element-clause-checked
returns-in-Element-clause-checked c =
    let same = of_text (project (loaded_in c.args.sources)) c.args.key.now c.args.given.now c.args.slot.now c.in-Text.text c.in-Element.list c.in-Element.number c.in-Text.is c.in-Element.is in
    IfOk-weaker c.checked_text.result _ _ (λ u is. same ∙ is) c.checked_text.ensures.checked

pub returns-in-Element-clause-refused : goal.returns-in-Element-clause-refused
returns-in-Element-clause-refused c =
    let p = project (loaded_in c.args.sources) in
    let same = of_text p c.args.key.now c.args.given.now c.args.slot.now c.in-Text.text c.in-Element.list c.in-Element.number c.in-Text.is c.in-Element.is in
    refused_as c.checked_text.result (checked_given p c.args.key.now c.args.given.now c.args.slot.now) (checked_text p c.args.key.now c.in-Text.text c.in-Element.list) same c.checked_text.ensures.refused
