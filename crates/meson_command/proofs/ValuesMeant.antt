-- A loop that reads each word as a value: what is done, and what is left.
use Rattle.std.proofs.Common.{◌≡◌, ◌≢◌, ◌∙◌, ◌+◌, ◌<◌, ℕ, suc, List, [], ◌∷◌, ◌++◌, length, drop, get_or, Option, Some, None, refl, sym, ap, add-one, append_assoc, append-nil}
use Rattle.std.specs.Prelude.{option_map}
use Rattle.std.proofs.Math.Seq.{drop-cons, drop-length}
use Rattle.clap.specs.Words.{Text}
use Rattle.meson_steps.specs.GivenWords.{meant_by}
use Rattle.meson_steps.specs.declared.given.Given.{Given}
use Rattle.meson_steps.specs.declared.value_fault.ValueFault.{ValueFault}
use Rattle.meson_steps.specs.declared.value_fault.ValueFault.TheVariants as value
use Rattle.meson_command.specs.Arguments.{values_meant}
use Rattle.meson_command.specs.Messages.{usage_by_value}
use Rattle.meson_command.specs.declared.fault.UsageFault.TheVariants.{NotCode, OutOfMemory}

-- what is done, before what comes
abbrev pub after : List Given → Option (List Given) → Option (List Given)
after done r = option_map (λ rest. done ++ rest) r

onto : (done : List Given) (x : Given) (r : Option (List Given)) → after done (option_map (λ xs. x ∷ xs) r) ≡ after (done ++ x ∷ []) r
onto done x None = refl
onto done x (Some rest) = ap (λ t. Some t) (sym (append_assoc done (x ∷ []) rest))

pub meant-more : (words : List Text) (i : ℕ) (done : List Given) (word : Text) (x : Given) → i < length words → word ≡ get_or words i word → meant_by word ≡ Some x
    → after done (values_meant (drop i words)) ≡ after (done ++ x ∷ []) (values_meant (drop (i + 1) words))
unfolding values_meant
meant-more words i done word x h is means = rw (drop-cons words i word, ← is, means, add-one) (onto done x (values_meant (drop (suc i) words)))

pub meant-none : (words : List Text) (i : ℕ) (done : List Given) (word : Text) → i < length words → word ≡ get_or words i word → meant_by word ≡ None
    → after done (values_meant (drop i words)) ≡ None
unfolding values_meant
meant-none words i done word h is none = rw (drop-cons words i word, ← is, none) refl

pub meant-all : (words : List Text) (i : ℕ) (done : List Given) → length words ≡ i → after done (values_meant (drop i words)) ≡ Some done
unfolding values_meant
meant-all words i done h = rw (← h, drop-length words, append-nil) refl

-- a word that is no value, after those that are
pub fault-meant : (fault : ValueFault) (words : List Text) (i : ℕ) (done : List Given) (word : Text) → i < length words → word ≡ get_or words i word
    → values_meant words ≡ after done (values_meant (drop i words)) → (fault ≢ value.OutOfMemory → (fault ≡ value.NotCode) × (meant_by word ≡ None))
    → usage_by_value fault ≢ OutOfMemory → (usage_by_value fault ≡ NotCode) × (values_meant words ≡ None)
fault-meant value.NotCode words i done word h is at said n = (refl, at ∙ meant-none words i done word h is (said (λ e. cc)).1)
fault-meant value.OutOfMemory words i done word h is at said n = absurd (n refl)
