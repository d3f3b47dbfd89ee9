-- Which of the words of `code` is unknown.
use Rattle.std.proofs.Common.{◌≡◌, ◌≢◌, ◌⊎◌, inl, inr, ℕ, Bool, true, false, if◌then◌else◌, List, Option, Some, None, Result, Ok, Err, codes, refl}
use Rattle.std.specs.Prelude.{◌||◌, bytes_eq, is_some, ok_or, option_map}
use Rattle.std.proofs.lemmas.Slice.Eq.{bytes_eq-Decides}
use Rattle.clap.specs.Words.{Row, Text, first_of}
use Rattle.meson_splice.specs.Patch.{then_ok}
use Rattle.meson_statements.specs.CodeTexts.{statement_code}
use Rattle.meson_steps.specs.declared.argument.PlaceName.{PlaceName}
use Rattle.meson_steps.specs.declared.argument.Search.{Search}
use Rattle.meson_steps.specs.declared.command.CodePlace.{CodePlace}
use Rattle.meson_steps.specs.declared.command.CodePlace.TheVariants as place
use Rattle.meson_steps.specs.declared.command.Command.TheVariants as command
use Rattle.meson_json.specs.Arguments.{place_named}
use Rattle.meson_json.specs.Codes.{blank_of}
use Rattle.meson_json.specs.Operations.{code_operation}
use Rattle.meson_json.specs.declared.names.CodeOperation.{CodeOperation}
use Rattle.meson_json.specs.declared.names.CodeOperation.TheVariants as operation
use Rattle.meson_command.specs.Actions.{has_flag, run, word_at}
use Rattle.meson_command.specs.Codes.{blank_in, code_action, code_word, has_more, insertion_action, place_meant, removal_action, search_meant}
use Rattle.meson_command.specs.Laws.{IsNoCode, IsNoInsertion, IsNoRemoval}
use Rattle.meson_command.specs.declared.asked.Action.{Action}
use Rattle.meson_command.specs.declared.fault.UsageFault.{UsageFault}
use Rattle.meson_command.specs.declared.fault.UsageFault.TheVariants.{NotCode, Usage}

-- the last of what is done: the code of a word is inserted
abbrev with_code : Option (List ℕ) → CodePlace → Option ℕ → Result Action UsageFault
with_code o place blank = then_ok (ok_or o NotCode) (λ code. Ok (run (command.CodeInsert place code blank)))

abbrev with_blank : Option Text → Text → CodePlace → Result Action UsageFault
with_blank given word place = then_ok (blank_in given) (λ blank. with_code (statement_code word) place blank)

abbrev with_place : Option CodePlace → Option Text → Text → Result Action UsageFault
with_place p given word = then_ok (ok_or p Usage) (λ place. with_blank given word place)

abbrev with_word : Option Text → Option CodePlace → Option Text → Result Action UsageFault
with_word o p given = then_ok (ok_or o Usage) (λ word. with_place p given word)

-- code that is none is no wrong usage
no-code : (o : Option (List ℕ)) (place : CodePlace) (blank : Option ℕ) → with_code o place blank ≡ Err Usage → ⊥
no-code None place blank e = cc
no-code (Some code) place blank e = cc

no-blank : (n : Option ℕ) (word : Text) (place : CodePlace)
    → then_ok (then_ok (ok_or n Usage) (λ blank. Ok (Some blank))) (λ blank. with_code (statement_code word) place blank) ≡ Err Usage → n ≡ None
no-blank None word place e = refl
no-blank (Some n) word place e = absurd (no-code (statement_code word) place (Some n) e)

other-blank : (given : Option Text) (word : Text) (place : CodePlace) → with_blank given word place ≡ Err Usage → (x : Text) × (given ≡ Some x) × (blank_of x ≡ None)
other-blank None word place e = absurd (no-code (statement_code word) place None e)
other-blank (Some x) word place e = (x, refl, no-blank (blank_of x) word place e)

unplaced : (f : Search → CodePlace) (folder : Option Text) (p : Option PlaceName) → option_map f (option_map (λ name. record { name = name; folder = folder }) p) ≡ None → p ≡ None
unplaced f folder None e = refl
unplaced f folder (Some name) e = cc

place-none : (folder : Option Text) (o : CodeOperation) (rows : List Row) → place_meant folder o rows ≡ None
    → (o ≢ operation.Append) × (place_named (word_at (codes "FUNCTION|FILE") rows) (word_at (codes "ID|CODE") rows) ≡ None)
place-none folder operation.After rows e =
    let other : operation.After ≢ operation.Append = λ same. cc in
    (other, unplaced place.Below folder (place_named (word_at (codes "FUNCTION|FILE") rows) (word_at (codes "ID|CODE") rows)) e)
place-none folder operation.Before rows e =
    let other : operation.Before ≢ operation.Append = λ same. cc in
    (other, unplaced place.Above folder (place_named (word_at (codes "FUNCTION|FILE") rows) (word_at (codes "ID|CODE") rows)) e)
place-none folder operation.Append rows e = cc

insertion-unknown : (folder : Option Text) (rows : List Row) → insertion_action folder rows ≡ Err Usage → IsNoInsertion rows
unfolding insertion_action
insertion-unknown folder rows e = by_operation (code_operation (word_at (codes "OPERATION") rows)) refl e
  where
    by_place : (o : CodeOperation) → code_operation (word_at (codes "OPERATION") rows) ≡ Some o → (word : Text) (p : Option CodePlace) → place_meant folder o rows ≡ p
        → with_place p (first_of (codes "N") rows) word ≡ Err Usage → IsNoInsertion rows
    by_place o of word None is e =
        let none = place-none folder o rows is in
        inr (inr (inl (λ append. none.0 (let same : o ≡ operation.Append = cc in same), none.1)))
    by_place o of word (Some place) is e = inr (inr (inr (other-blank (first_of (codes "N") rows) word place e)))

    by_word : (o : CodeOperation) → code_operation (word_at (codes "OPERATION") rows) ≡ Some o → (w : Option Text) → code_word o rows ≡ w
        → with_word w (place_meant folder o rows) (first_of (codes "N") rows) ≡ Err Usage → IsNoInsertion rows
    by_word o of None is e = inr (inl (o, of, is))
    by_word o of (Some word) is e = by_place o of word (place_meant folder o rows) refl e

    by_operation : (o : Option CodeOperation) → code_operation (word_at (codes "OPERATION") rows) ≡ o
        → then_ok (ok_or o Usage) (λ operation. with_word (code_word operation rows) (place_meant folder operation rows) (first_of (codes "N") rows)) ≡ Err Usage
        → IsNoInsertion rows
    by_operation None of e = inl of
    by_operation (Some o) of e = by_word o of (code_word o rows) refl e

-- ---- removals

-- one of two tests that are true together
one-of : (a b : Bool) → (a || b) ≡ true → (a ≡ true) ⊎ (b ≡ true)
one-of true b e = inl refl
one-of false b e = inr e

nameless : (folder : Option Text) (unused : Bool) (p : Option PlaceName)
    → then_ok (ok_or (option_map (λ name. record { name = name; folder = folder }) p) Usage) (λ statement. Ok (run (command.CodeRemove statement unused))) ≡ Err Usage
    → p ≡ None
nameless folder unused None e = refl
nameless folder unused (Some name) e = absurd (let no : ⊥ = cc in no)

removal-unknown : (folder : Option Text) (rows : List Row) → removal_action folder rows ≡ Err Usage → IsNoRemoval rows
unfolding removal_action
removal-unknown folder rows e = by_more (has_more rows) refl e
  where
    more : (is_some (first_of (codes "CODE") rows) ≡ true) ⊎ (is_some (first_of (codes "N") rows) ≡ true) → IsNoRemoval rows
    more (inl code) = inl code
    more (inr number) = inr (inl number)

    by_more : (b : Bool) → has_more rows ≡ b
        → (if b then Err Usage else then_ok (ok_or (search_meant folder rows) Usage) (λ statement. Ok (run (command.CodeRemove statement (has_flag (codes "unused") rows))))) ≡ Err Usage
        → IsNoRemoval rows
    by_more true of e = more (one-of _ _ of)
    by_more false of e = inr (inr (nameless folder (has_flag (codes "unused") rows) (place_named (word_at (codes "FUNCTION|FILE") rows) (word_at (codes "ID|CODE") rows)) e))

-- ---- any words of code

differ : (b : Bool) → b ≡ true → b ≡ false → ⊥
differ true t f = cc
differ false t f = cc

another : (word x : Text) → bytes_eq word x ≡ false → word ≢ x
another word x e is = differ (bytes_eq word x) ((bytes_eq-Decides word x).1 is) e

pub code-unknown : (folder : Option Text) (rows : List Row) → code_action folder rows ≡ Err Usage → IsNoCode rows
unfolding code_action
code-unknown folder rows e = by_word (bytes_eq (word_at (codes "OPERATION") rows) (codes "remove")) refl e
  where
    by_flag : (other : word_at (codes "OPERATION") rows ≢ codes "remove") (b : Bool) → has_flag (codes "unused") rows ≡ b → (if b then Err Usage else insertion_action folder rows) ≡ Err Usage → IsNoCode rows
    by_flag other true of e = inr (other, inl of)
    by_flag other false of e = inr (other, inr (insertion-unknown folder rows e))

    by_word : (b : Bool) → bytes_eq (word_at (codes "OPERATION") rows) (codes "remove") ≡ b
        → (if b then removal_action folder rows else (if has_flag (codes "unused") rows then Err Usage else insertion_action folder rows)) ≡ Err Usage → IsNoCode rows
    by_word true of e = inl ((bytes_eq-Decides (word_at (codes "OPERATION") rows) (codes "remove")).0 of, removal-unknown folder rows e)
    by_word false of e = by_flag (another _ _ of) (has_flag (codes "unused") rows) refl e
