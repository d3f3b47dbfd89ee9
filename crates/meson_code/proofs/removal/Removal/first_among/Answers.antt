use Rattle.std.proofs.Common.{◌≡◌, ℕ, List, [], ◌∙◌, subst, sym, ap, refl}
use Rattle.std.specs.Prelude.{Bool, true, false, not, if◌then◌else◌}
use Rattle.std.specs.List.{find}
use Rattle.meson_calls.specs.declared.note.Note as code
use Rattle.meson_calls.specs.NamedNotes.{IsNamed}
use Rattle.meson_calls.proofs.NamedNotes.{named_at}
use Rattle.meson_calls.specs.Notes.{note_view, note_views}
use Rattle.meson_calls.specs.Strings.{AreGood, note_words}
use Rattle.meson_calls.proofs.GoodNotes.{good_at}
use Rattle.meson_targets.specs.TargetEdits.{StatementPlace, is_in_statement}
use Rattle.meson_targets.specs.inside.TargetViews.{place_view}
use Rattle.meson_places.specs.Names.{loaded_in}
use Rattle.meson_code.specs.Removal.{is_needed, names_set, set_within}
use Rattle.meson_code.proofs.FirstFound.{found_here, none_here}
use Rattle.meson_code.proofs.removal.Removal.first_among.Goals as goal

abbrev of_notes : StatementPlace → List code.Note → List (List ℕ)
of_notes a ns = set_within a (note_views ns)

abbrev of_note : StatementPlace → code.Note → List (List ℕ)
of_note a n = if is_in_statement a (note_view n).place then names_set (note_view n).it else []

within : (b : Bool) → not b ≡ false → b ≡ true
within true is = refl
within false is = absurd (let no : ⊥ = cc in no)

outside : (b : Bool) → not b ≡ true → b ≡ false
outside true is = absurd (let no : ⊥ = cc in no)
outside false is = refl

pub first_of_note-requires-clause-good : goal.first_of_note-requires-clause-good
first_of_note-requires-clause-good c =
    subst (λ n. AreGood (note_words (note_view n).it)) (sym c.index-notes-i.is) (good_at c.args.notes.now c.loop-i.i c.index-notes-i.result c.loop-i-test.true c.requires.good)

pub first_of_note-requires-clause-named : goal.first_of_note-requires-clause-named
first_of_note-requires-clause-named c =
    subst (λ n. IsNamed (note_view n).it) (sym c.index-notes-i.is) (named_at c.args.notes.now c.loop-i.i c.index-notes-i.result c.loop-i-test.true c.requires.named)

pub returns-in-Some : goal.returns-in-Some
returns-in-Some c =
    let a = place_view c.args.self.now.statement.now in
    let needed = is_needed (loaded_in c.args.self.now.sources) a in
    let n = c.index-notes-i.result in
    let is_in : is_in_statement a (note_view n).place ≡ true = within (is_in_statement a (note_view n).place) (sym c.is_outside.ensures ∙ c.if-is_outside.false) in
    found_here needed (of_notes a) (of_note a) (λ x xs. refl) c.args.notes.now c.loop-i.i n _ c.loop-i-test.true c.loop-i.invariant c.in-Some.found
    (sym c.in-Some.is ∙ c.in_ok-found.ensures ∙ ap (λ b. find needed (if b then names_set (note_view n).it else [])) (sym is_in) ∙ ap (λ m. find needed (of_note a m)) c.index-notes-i.is)

pub loop-i-preserved : goal.loop-i-preserved
loop-i-preserved c =
    let a = place_view c.args.self.now.statement.now in
    let needed = is_needed (loaded_in c.args.self.now.sources) a in
    let n = c.index-notes-i.result in
    let is_in : is_in_statement a (note_view n).place ≡ true = within (is_in_statement a (note_view n).place) (sym c.is_outside.ensures ∙ c.if-is_outside.false) in
    none_here needed (of_notes a) (of_note a) (λ x xs. refl) c.args.notes.now c.loop-i.i n _ c.loop-i-test.true c.loop-i.invariant
    (sym c.in_default.is ∙ c.in_ok-found.ensures ∙ ap (λ b. find needed (if b then names_set (note_view n).it else [])) (sym is_in) ∙ ap (λ m. find needed (of_note a m)) c.index-notes-i.is)
