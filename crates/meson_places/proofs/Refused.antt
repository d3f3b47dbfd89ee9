-- Results that are known by an equal one; and the first of some keys.
use Rattle.std.proofs.Common.{◌≡◌, ℕ, ◌-◌, ◌≤◌, List, [], ◌∷◌, length, take, drop, get_or, Result, Ok, Err, refl, ap, sym, ◌∙◌, arith}
use Rattle.std.specs.Prelude.{◌≢◌, IfOk, MatchOption, Option, Some, None}
use Rattle.std.specs.Result.{IsErrAnd}
use Rattle.std.proofs.lemmas.List.{take_all}
use Rattle.meson_splice.specs.Patch.{then_ok}
use Rattle.meson_calls.specs.declared.refusal.Refusal.{Refusal}
use Rattle.meson_calls.specs.declared.refusal.Refusal.TheVariants.{OutOfMemory}
use Rattle.meson_calls.specs.Refusals.{RefusedAs}

pub ok_then : {X Y : Type 0} (r : Result X Refusal) (f : X → Result Y Refusal) (y : Y) → then_ok r f ≡ Ok y → (x : X) × (r ≡ Ok x) × (f x ≡ Ok y)
ok_then (Ok x) f y h = (x, refl, h)
ok_then (Err e) f y h = absurd (let no : ⊥ = cc in no)

pub found_as : {X : Type 0} (r a b : Result X Refusal) → a ≡ b → IfOk r (λ x. b ≡ Ok x) → IfOk r (λ x. a ≡ Ok x)
found_as (Ok x) a b same h = same ∙ h
found_as (Err e) a b same h = tt

pub refused_as : {X Y : Type 0} (r : Result X Refusal) (a b : Result Y Refusal) → a ≡ b → RefusedAs r b → RefusedAs r a
refused_as (Ok x) a b same h = tt
refused_as (Err e) a b same h = λ other. same ∙ h other

pub first_key : (keys : List (List ℕ)) (d : List ℕ) → 1 ≤ length keys → keys ≡ get_or keys 0 d ∷ take (length keys - 1) (drop 1 keys)
first_key [] d some = absurd (omega arith)
first_key (k ∷ keys) d some =
    let all : length (k ∷ keys) - 1 ≡ length keys = omega arith in
    sym (ap (λ ks. k ∷ ks) (ap (λ n. take n keys) all ∙ take_all (length keys) keys (omega arith)))

pub always : {X : Type 0} (o : Option X) (P : Type 0) → P → MatchOption o (Unit {0}) (λ x. P)
always None P p = tt
always (Some x) P p = p

-- a refusal that is passed on
pub passed : {X Y : Type 0} (r : Result X Refusal) (was : Refusal) (meant : Result Y Refusal) → IsErrAnd r (λ e. e ≡ was) → (was ≢ OutOfMemory → meant ≡ Err was) → RefusedAs r meant
passed (Ok x) was meant is k = tt
passed (Err e) was meant is k = λ other. k (λ same. other (is ∙ same)) ∙ ap Err (sym is)
