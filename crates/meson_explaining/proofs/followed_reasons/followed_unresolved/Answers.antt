use Rattle.std.proofs.Common.{◌≡◌, ℕ, List, [], ◌∷◌, ◌++◌, Option, ap, ap₂, ◌∙◌, append_assoc}
use Rattle.std.specs.Prelude.{codes, find}
use Rattle.meson_calls.specs.declared.call.CallName.{CallName}
use Rattle.meson_calls.specs.declared.call.CallRef.{CallRef}
use Rattle.meson_calls.specs.declared.call.Role.TheVariants as role
use Rattle.meson_calls.specs.Loading.{Loaded}
use Rattle.meson_calls.specs.Searching.{name_at}
use Rattle.meson_variables.specs.declared.source.SourceItem.{SourceItem}
use Rattle.meson_explaining.specs.Followed.{followed_items, is_absent, place_of}
use Rattle.meson_explaining.specs.Removals.{followed_unresolved, unknown_notes}
use Rattle.meson_explaining.specs.Sources.{close_notes}
use Rattle.meson_explaining.specs.Values.{value_notes}
use Rattle.meson_explaining.specs.Written.{written_notes}
use Rattle.meson_explaining.specs.declared.explanation.Explanation.{Explanation}
use Rattle.meson_explaining.specs.declared.explanation.Note.{Note}
use Rattle.meson_explaining.proofs.followed_reasons.followed_unresolved.Goals as goal

abbrev explained : List Note → List (List ℕ) → Explanation
explained notes help = record { notes = notes; help = help }

abbrev helped : List ℕ → List (List ℕ)
helped way = way ∷ codes "--follow target ID info counts what is not known" ∷ []

abbrev notes_of : Loaded → CallName → List SourceItem → Option (List ℕ) → List Note
notes_of l target items name =
    unknown_notes name ++ (written_notes l name ++ (close_notes items name ++ value_notes l role.Target target (codes "kwargs")))

abbrev notes_at : Loaded → CallName → List (List ℕ) → Option CallRef → List Note
notes_at l target names place = notes_of l target (followed_items l place) (find (is_absent l place) names)

one_by_one : (a b c d x y z : List Note) → x ≡ a ++ b → y ≡ x ++ c → z ≡ y ++ d → z ≡ a ++ (b ++ (c ++ d))
one_by_one a b c d x y z two three four =
    four ∙ ap (λ t. t ++ d) (three ∙ ap (λ t. t ++ c) two) ∙ append_assoc (a ++ b) c d ∙ append_assoc a b (c ++ d)

each : (l : Loaded) (target : CallName) (items : List SourceItem) (name : Option (List ℕ)) (a b c d : List Note)
    → a ≡ unknown_notes name → b ≡ written_notes l name → c ≡ close_notes items name → d ≡ value_notes l role.Target target (codes "kwargs")
    → a ++ (b ++ (c ++ d)) ≡ notes_of l target items name
each l target items name a b c d unknown written close hidden =
    ap₂ (λ x y. x ++ y) unknown (ap₂ (λ x y. x ++ y) written (ap₂ (λ x y. x ++ y) close hidden))

pub returns : goal.returns
unfolding followed_unresolved
returns c =
    let l = c.args.project.now in
    let target = name_at c.args.target in
    let names = c.sought_names-names.result.now in
    let a = c.in_ok-notes.notes.items in
    let b = c.in_ok-written.written.items in
    let close = c.in_ok-close.close.items in
    let d = c.in_ok-hidden.hidden.items in
    let all = c.append-3.new.self.items in
    let in_turn =
    one_by_one a b close d c.append.new.self.items c.append-2.new.self.items all c.in_ok-append.ensures.items c.in_ok-append-2.ensures.items c.in_ok-append-3.ensures.items in
    let these = each l target c.get.result.now _ a b close d c.in_ok-notes.ensures c.in_ok-written.ensures c.in_ok-close.ensures c.in_ok-hidden.ensures in
    let there = ap₂ (notes_of l target) (c.get.ensures ∙ c.in_ok-items.ensures) c.in_ok-name.ensures ∙ ap (notes_at l target names) c.in_ok-place.ensures
    ∙ ap (λ ns. notes_at l target ns (place_of l target)) c.sought_names-names.ensures in
    ap₂ explained (c.of.ensures ∙ in_turn ∙ these ∙ there) (c.of-2.ensures ∙ c.in_ok-help.ensures ∙ ap helped c.change_way.ensures)
