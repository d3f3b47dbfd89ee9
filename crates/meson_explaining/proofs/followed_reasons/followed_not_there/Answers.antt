use Rattle.std.proofs.Common.{◌≡◌, ℕ, List, [], ◌∷◌, ◌++◌, Option, ap, ap₂, ◌∙◌}
use Rattle.std.specs.Prelude.{codes, find}
use Rattle.std.proofs.lemmas.Result.{IfOk-weaker}
use Rattle.meson_calls.specs.declared.call.CallRef.{CallRef}
use Rattle.meson_calls.specs.Loading.{Loaded}
use Rattle.meson_variables.specs.declared.source.SourceItem.{SourceItem}
use Rattle.meson_explaining.specs.Followed.{absent_notes, followed_items, followed_not_there, is_absent}
use Rattle.meson_explaining.specs.Sources.{close_notes}
use Rattle.meson_explaining.specs.declared.explanation.Explanation.{Explanation}
use Rattle.meson_explaining.specs.declared.explanation.Note.{Note}
use Rattle.meson_explaining.proofs.followed_reasons.followed_not_there.Goals as goal

abbrev helped : List Note → Explanation
helped notes = record { notes = notes; help = codes "--follow target ID info lists the sources" ∷ [] }

abbrev notes_at : Loaded → List (List ℕ) → Option CallRef → List Note
notes_at l names place = absent_notes l place names ++ close_notes (followed_items l place) (find (is_absent l place) names)

both : (l : Loaded) (names : List (List ℕ)) (place : Option CallRef) (absent close all : List Note) (items : List SourceItem) (name : Option (List ℕ))
    → absent ≡ absent_notes l place names → close ≡ close_notes items name → items ≡ followed_items l place → name ≡ find (is_absent l place) names
    → all ≡ absent ++ close → all ≡ notes_at l names place
both l names place absent close all items name a c i n is = is ∙ ap₂ (λ xs ys. xs ++ ys) a (c ∙ ap₂ close_notes i n)

pub returns : goal.returns
unfolding followed_not_there
returns c =
    let l = c.args.project.now in
    let names = c.args.names.now in
    let notes =
    both l names c.in_ok-place.place c.in_ok-notes.notes.items c.in_ok-close.close.items c.append.new.self.items c.get.result.now _ c.in_ok-notes.ensures c.in_ok-close.ensures
    (c.get.ensures ∙ c.in_ok-items.ensures) c.in_ok-name.ensures c.in_ok-append.ensures.items in
    IfOk-weaker c.with_help.result _ _ (λ e is. is ∙ ap helped (notes ∙ ap (notes_at l names) c.in_ok-place.ensures)) c.with_help.ensures
