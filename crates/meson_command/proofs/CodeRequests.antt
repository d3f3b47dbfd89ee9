-- What the words of `code` that are read make of it.
use Rattle.std.proofs.Common.{◌≡◌, ◌∙◌, ◌⊎◌, inl, inr, ℕ, true, false, List, Option, Some, None, Ok, Err, codes, sym, ap, refl, Bor}
use Rattle.std.specs.Prelude.{is_some, option_map}
use Rattle.clap.specs.Words.{Row, Text, first_of}
use Rattle.meson_statements.specs.CodeTexts.{statement_code}
use Rattle.meson_steps.specs.declared.command.CodePlace.{CodePlace}
use Rattle.meson_steps.specs.declared.command.Command.TheVariants as command
use Rattle.meson_json.specs.Operations.{code_operation}
use Rattle.meson_json.specs.declared.names.CodeOperation.{CodeOperation}
use Rattle.meson_json.specs.declared.names.CodeOperation.TheVariants as operation
use Rattle.meson_command.specs.Actions.{run, word_at}
use Rattle.meson_command.specs.Codes.{blank_in, code_word, insertion_action, last_word, place_meant}
use Rattle.meson_command.specs.declared.fault.UsageFault.{UsageFault}
use Rattle.meson_command.specs.declared.fault.UsageFault.TheVariants.{NotCode}

-- ---- the word of the code

pub third-word : (o : CodeOperation) (rows : List Row) (x : Option Text) → (o ≡ operation.After) ⊎ (o ≡ operation.Before) → x ≡ first_of (codes "CODE") rows → x ≡ code_word o rows
third-word operation.After rows x h e = e
third-word operation.Before rows x h e = e
third-word operation.Append rows x (inl is) e = cc
third-word operation.Append rows x (inr is) e = cc

with-append : (o : CodeOperation) (rows : List Row) (t : Option Text) → o ≡ operation.Append → t ≡ first_of (codes "CODE") rows
    → code_word o rows ≡ last_word (first_of (codes "ID|CODE") rows) t
with-append o rows t is e = ap (λ p. code_word p rows) is ∙ ap (last_word (first_of (codes "ID|CODE") rows)) (sym e)

pub one-too-many : (o : CodeOperation) (rows : List Row) (t : Option (Bor (List ℕ))) → o ≡ operation.Append → option_map (λ w. w.now) t ≡ first_of (codes "CODE") rows → is_some t ≡ true
    → None ≡ code_word o rows
one-too-many o rows None is e some = cc
one-too-many o rows (Some w) is e some = sym (with-append o rows (Some w.now) is e)

pub second-word : (o : CodeOperation) (rows : List Row) (t : Option (Bor (List ℕ))) (x : Option Text) → o ≡ operation.Append → option_map (λ w. w.now) t ≡ first_of (codes "CODE") rows → is_some t ≡ false
    → x ≡ first_of (codes "ID|CODE") rows → x ≡ code_word o rows
second-word o rows (Some w) x is e some at = cc
second-word o rows None x is e some at = at ∙ sym (with-append o rows None is e)

-- ---- the request

pub inserts : (folder : Option Text) (rows : List Row) (o : CodeOperation) (word : Text) (place : CodePlace) (blank : Option ℕ) (code : List ℕ)
    → code_operation (word_at (codes "OPERATION") rows) ≡ Some o → code_word o rows ≡ Some word → place_meant folder o rows ≡ Some place
    → blank_in (first_of (codes "N") rows) ≡ Ok blank → statement_code word ≡ Some code → insertion_action folder rows ≡ Ok (run (command.CodeInsert place code blank))
unfolding insertion_action
inserts folder rows o word place blank code operation has beside given is = rw (operation, has, beside, given, is) refl

pub not-code : (folder : Option Text) (rows : List Row) (o : CodeOperation) (word : Text) (place : CodePlace) (blank : Option ℕ)
    → code_operation (word_at (codes "OPERATION") rows) ≡ Some o → code_word o rows ≡ Some word → place_meant folder o rows ≡ Some place
    → blank_in (first_of (codes "N") rows) ≡ Ok blank → statement_code word ≡ None → insertion_action folder rows ≡ Err NotCode
unfolding insertion_action
not-code folder rows o word place blank operation has beside given is = rw (operation, has, beside, given, is) refl

pub no-number : (folder : Option Text) (rows : List Row) (o : CodeOperation) (word : Text) (place : CodePlace) (e : UsageFault)
    → code_operation (word_at (codes "OPERATION") rows) ≡ Some o → code_word o rows ≡ Some word → place_meant folder o rows ≡ Some place
    → blank_in (first_of (codes "N") rows) ≡ Err e → insertion_action folder rows ≡ Err e
unfolding insertion_action
no-number folder rows o word place e operation has beside given = rw (operation, has, beside, given) refl
