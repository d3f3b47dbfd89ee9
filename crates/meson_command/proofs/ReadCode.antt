-- Words whose code is on standard input: they are refused without it, and when it is read.
use Rattle.std.proofs.Common.{◌≡◌, ◌≢◌, ◌∙◌, ◌&&◌, ◌⊎◌, inl, inr, ℕ, Bool, true, false, List, [], ◌∷◌, Option, Some, None, Result, Err, if◌then◌else◌, refl, sym, ap, ap₂, subst}
use Rattle.std.specs.Str.{IsUtf8, is_utf8}
use Rattle.std.proofs.lemmas.Str.{IsUtf8-from_is_utf8, is_utf8-from_IsUtf8}
use Rattle.clap.specs.Kinds.{IsAmong}
use Rattle.clap.specs.Words.{App, HasMatchesOf, Kinds, Text, fault_of, found_of, matches_of, rows_of, subcommand_of, subcommand_rows_of}
use Rattle.clap.specs.declared.parser.matches.ArgMatches.{ArgMatches}
use Rattle.clap.specs.declared.error.kind.ErrorKind.{ErrorKind}
use Rattle.clap.specs.declared.error.kind.ErrorKind.TheVariants.{OutOfMemory}
use Rattle.meson_command.specs.Asking.{answer, asked_of}
use Rattle.meson_command.specs.Input.{ReadsCodeOfRefusedWords, as_text, code_by, is_not_code, lacks_code, reads_code_as, waits_for_code}
use Rattle.meson_command.specs.Program.{program}
use Rattle.meson_command.specs.Spelling.{clap_words}
use Rattle.meson_command.specs.declared.asked.Asked.{Asked}
use Rattle.meson_command.specs.declared.fault.UsageFault.{UsageFault}
use Rattle.meson_command.specs.declared.fault.UsageFault.TheVariants.{NotCode}
use Rattle.meson_command.proofs.Taken.{program_is_simple}

-- ---- words that are refused

not-code : (asked : Result Asked UsageFault) → is_not_code asked ≡ true → asked ≡ Err NotCode
not-code (Err NotCode) e = refl
not-code _ e = cc

lacking : (ks : Kinds) (waits : Bool) (asked : Result Asked UsageFault) → code_by ks (waits && is_not_code asked) ≡ true → answer ks asked ≡ Err NotCode
lacking [] true asked e = not-code asked e
lacking [] false asked e = cc
lacking (k ∷ ks) waits asked e = cc

pub refused-law : ReadsCodeOfRefusedWords
refused-law words e =
    let given = clap_words words in
    lacking (fault_of program given) (waits_for_code (matches_of program given) (subcommand_of program given)) (asked_of given) e

-- ---- what is read of the words

lacks-of : (a : App) (words : List Text) (m : ArgMatches) → a ≡ program → HasMatchesOf a words m
    → lacks_code (rows_of (found_of m)) (subcommand_rows_of m) ≡ lacks_code (matches_of program words) (subcommand_of program words)
lacks-of a words m e h =
    let is = subst (λ (z : App). HasMatchesOf z words m) e h program_is_simple in
    ap₂ lacks_code is.0 is.1

pub taken : (a : App) (words : List Text) (m : ArgMatches) (b : Bool) → a ≡ program → HasMatchesOf a words m → fault_of program words ≡ []
    → b ≡ lacks_code (rows_of (found_of m)) (subcommand_rows_of m) → b ≡ reads_code_as words
taken a words m b is h none given = given ∙ ap₂ code_by (sym none) (lacks-of a words m is h)

pub untaken : (ks : Kinds) (k : ErrorKind) (lacks : Bool) → k ≢ OutOfMemory → (k ≡ OutOfMemory) ⊎ IsAmong k ks → false ≡ code_by ks lacks
untaken [] k lacks n (inl e) = absurd (n e)
untaken [] k lacks n (inr h) = absurd h
untaken (x ∷ ks) k lacks n h = refl

-- ---- bytes as text

by-test : (b : Bool) (x y : Option (List ℕ)) → b ≡ true → (if b then x else y) ≡ x
by-test true x y e = refl
by-test false x y e = absurd (let no : ⊥ = cc in no)

by-test-not : (b : Bool) (x y : Option (List ℕ)) → b ≡ false → (if b then x else y) ≡ y
by-test-not false x y e = refl
by-test-not true x y e = absurd (let no : ⊥ = cc in no)

not-text : (b : Bool) (bytes : List ℕ) → is_utf8 bytes ≡ b → (IsUtf8 bytes → ⊥) → b ≡ false
not-text true bytes is other = absurd (other (IsUtf8-from_is_utf8 bytes is))
not-text false bytes is other = refl

pub of-text : (bytes text copy : List ℕ) → text ≡ bytes → IsUtf8 bytes → copy ≡ text → Some copy ≡ as_text bytes
of-text bytes text copy same is copied =
    ap (λ (t : List ℕ). Some t) (copied ∙ same) ∙ sym (by-test (is_utf8 bytes) (Some bytes) None (is_utf8-from_IsUtf8 bytes is))

pub of-no-text : (bytes : List ℕ) → (IsUtf8 bytes → ⊥) → None ≡ as_text bytes
of-no-text bytes other = sym (by-test-not (is_utf8 bytes) (Some bytes) None (not-text (is_utf8 bytes) bytes refl other))
