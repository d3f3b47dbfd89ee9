-- The calls that are told as the nearest are near.
use Rattle.std.proofs.Common.{◌≡◌, ◌⊎◌, ◌∙◌, inl, inr, sym, ℕ, zero, suc, ◌+◌, ◌/◌, ◌<◌, ◌≤◌, List, [], ◌∷◌, length, take, get_or, Option, Some, None, refl, ap, arith}
use Rattle.std.specs.Prelude.{min, Bool, true, false, cond, if◌then◌else◌, filter, option_and_then}
use Rattle.std.specs.List.{All, Contains}
use Rattle.std.proofs.lemmas.Bool.{cases_lt, eqb-true}
use Rattle.std.proofs.Math.Nat.{min-eq_left, min_comm}
use Rattle.std.proofs.lemmas.List.{get_or_default, length-take}
use Rattle.std.proofs.lemmas.List.Elements.{All-append, All-cons, All-head, All-tail, All-take}
use Rattle.meson_inventory.specs.declared.holdings.HeldCall.{HeldCall}
use Rattle.meson_explaining.specs.Laws.{IsNear, NearestAreNear}
use Rattle.meson_explaining.specs.Nearest.{edits, edits_to, far, fewer, is_far, is_long, is_number, nearer}

no_more : {X : Type 0} (P : X → Type 0) → All P []
no_more P = λ k d within. absurd (omega (arith, within))

each_of : {X : Type 0} (xs : List X) → All (Contains xs) xs
each_of xs = λ k d within. (k, within, get_or_default xs k (get_or xs k d) d within)

weaker : {X : Type 0} (P Q : X → Type 0) (xs : List X) → ((x : X) → P x → Q x) → All P xs → All Q xs
weaker P Q xs f all = λ k d within. f (get_or xs k d) (all k d within)

-- the elements that pass a test have what passing it gives
passing : {X : Type 0} (P Q : X → Type 0) (p : X → Bool) → ((x : X) → P x → p x ≡ true → Q x) → (xs : List X) → All P xs → All Q (filter p xs)
passing P Q p gives [] all = no_more Q
passing {X} P Q p gives (x ∷ xs) all = go (p x) refl (passing P Q p gives xs (All-tail P x xs all))
  where
    go : (b : Bool) → p x ≡ b → All Q (filter p xs) → All Q (cond b (x ∷ filter p xs) (filter p xs))
    go true is rest = All-cons Q x (filter p xs) (gives x (All-head P x xs all) is) rest
    go false is rest = rest

min-one : (m k : ℕ) → (min m k ≡ m) ⊎ (min m k ≡ k)
min-one m k = elim (cases_lt m k) [
  | inl less ↦ inl (min-eq_left (omega (arith, less)))
  | inr more ↦ inr (min_comm m k ∙ min-eq_left more)
]

module _ (id : List ℕ) (cs : List HeldCall) where
  -- one of the calls, with a name that is nearer than n
  record Nearer (n : ℕ) (c : HeldCall) : Type 0 where
    among : Contains cs c
    name : List ℕ
    is_name : (c.head.name ≡ Some name) ⊎ (c.variable ≡ Some name)
    close : edits id name < n

  at_number : (n : ℕ) (o : Option ℕ) → is_number n o ≡ true → o ≡ Some n
  at_number n None is = absurd (let no : ⊥ = cc in no)
  at_number n (Some m) is = ap Some (eqb-true m n is)

  to_name : (n : ℕ) (name : List ℕ) (long : Bool) → is_long name ≡ long → (if long then None else Some (edits id name)) ≡ Some n → edits id name ≡ n
  to_name n name true is e = absurd (let no : ⊥ = cc in no)
  to_name n name false is e = cc

  -- the name that is so far away
  record At (n : ℕ) (o : Option (List ℕ)) : Type 0 where
    name : List ℕ
    is_name : o ≡ Some name
    at : edits id name ≡ n

  name_at : (n : ℕ) (o : Option (List ℕ)) → option_and_then (edits_to id) o ≡ Some n → At n o
  name_at n None e = absurd (let no : ⊥ = cc in no)
  name_at n (Some name) e = record { name = name; is_name = refl; at = to_name n name (is_long name) refl e }

  one_of_two : (n : ℕ) (a b : Option ℕ) → fewer a b ≡ Some n → (a ≡ Some n) ⊎ (b ≡ Some n)
  one_of_two n None b e = inr e
  one_of_two n (Some m) None e = inl e
  one_of_two n (Some m) (Some k) e = elim (min-one m k) [
    | inl first ↦ inl (ap Some (sym first) ∙ e)
    | inr second ↦ inr (ap Some (sym second) ∙ e)
  ]

  at_distance : (n : ℕ) (c : HeldCall) → Contains cs c → is_far id n c ≡ true → Nearer (suc n) c
  at_distance n c among is = elim (one_of_two n (option_and_then (edits_to id) c.head.name) (option_and_then (edits_to id) c.variable) (at_number n (far id c) is)) [
    | inl e ↦ let it = name_at n c.head.name e in
        record { among = among; name = it.name; is_name = inl it.is_name; close = omega (arith, it.at) }
    | inr e ↦ let it = name_at n c.variable e in
        record { among = among; name = it.name; is_name = inr it.is_name; close = omega (arith, it.at) }
  ]

  one_more : (n : ℕ) (c : HeldCall) → Nearer n c → Nearer (suc n) c
  one_more n c near = record { among = near.among; name = near.name; is_name = near.is_name; close = omega (arith, near.close) }

  all_nearer : (some : List HeldCall) → All (Contains cs) some → (n : ℕ) → All (Nearer n) (nearer id n some)
  all_nearer some among zero = no_more (Nearer zero)
  all_nearer some among (suc n) =
      All-append (Nearer (suc n)) (nearer id n some) (filter (is_far id n) some)
      (weaker (Nearer n) (Nearer (suc n)) (nearer id n some) (one_more n) (all_nearer some among n))
      (passing (Contains cs) (Nearer (suc n)) (is_far id n) (at_distance n) some among)

  near : (c : HeldCall) → Nearer (length id / 3 + 1) c → IsNear id cs c
  near c n = record { among = n.among; name = n.name; is_name = n.is_name; close = omega (arith, n.close) }

  are_near : (long : Bool) → All (IsNear id cs) (if long then [] else take 3 (nearer id (length id / 3 + 1) (take 5000 cs)))
  are_near true = no_more (IsNear id cs)
  are_near false =
      let found = nearer id (length id / 3 + 1) (take 5000 cs) in
      All-take (IsNear id cs) 3 found
      (weaker (Nearer (length id / 3 + 1)) (IsNear id cs) found near (all_nearer (take 5000 cs) (All-take (Contains cs) 5000 cs (each_of cs)) (length id / 3 + 1)))

  are_few : (long : Bool) → length (if long then [] else take 3 (nearer id (length id / 3 + 1) (take 5000 cs))) ≤ 3
  are_few true = omega arith
  are_few false = omega (arith, length-take 3 (nearer id (length id / 3 + 1) (take 5000 cs)))

pub nearest_are_near : NearestAreNear
nearest_are_near id cs = record { each = are_near id cs (is_long id); few = are_few id cs (is_long id) }
