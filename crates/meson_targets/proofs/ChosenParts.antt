-- What is chosen of parts, told at once; and lists from which a part has gone.
use Rattle.meson_targets.proofs.Words.{◌≡◌, List, [], ◌∷◌, ◌++◌, map, Option, Some, None, refl, sym, ap, ◌∙◌, option_and_then, option_map, cons_option}
use Rattle.meson_targets.proofs.Words.{filter_map, all_chosen, Placed, placed}

-- ---- what is chosen, told at once

module _ {X Y Z : Type 0} (f : X → Option Y) (g : Y → Option Z) where
  one_chosen : (q : Placed X) (o : Option Y) (rest : List (Placed X)) → filter_map (λ (x : Placed X). option_and_then g (f x.it)) rest ≡ filter_map (λ (y : Placed Y). g y.it) (all_chosen f rest)
      → cons_option (option_and_then g o) (filter_map (λ (x : Placed X). option_and_then g (f x.it)) rest) ≡ filter_map (λ (y : Placed Y). g y.it) (cons_option (option_map (placed q.place) o) (all_chosen f rest))
  one_chosen q None rest same = same
  one_chosen q (Some y) rest same = ap (cons_option (g y)) same

  pub chosen_told : (qs : List (Placed X)) → filter_map (λ (x : Placed X). option_and_then g (f x.it)) qs ≡ filter_map (λ (y : Placed Y). g y.it) (all_chosen f qs)
  chosen_told [] = refl
  chosen_told (q ∷ qs) = one_chosen q (f q.it) qs (chosen_told qs)

module _ {X Y : Type 0} (f : X → Option Y) where
  last_chosen : (q : Placed X) (o : Option Y) (rest : List (Placed X)) → map (λ (y : Placed Y). y.it) (all_chosen f rest) ≡ filter_map (λ (x : Placed X). f x.it) rest
      → map (λ (y : Placed Y). y.it) (cons_option (option_map (placed q.place) o) (all_chosen f rest)) ≡ cons_option o (filter_map (λ (x : Placed X). f x.it) rest)
  last_chosen q None rest same = same
  last_chosen q (Some y) rest same = ap (λ l. y ∷ l) same

  pub chosen_its : (qs : List (Placed X)) → map (λ (y : Placed Y). y.it) (all_chosen f qs) ≡ filter_map (λ (x : Placed X). f x.it) qs
  chosen_its [] = refl
  chosen_its (q ∷ qs) = last_chosen q (f q.it) qs (chosen_its qs)

-- ---- lists that are joined

pub nothing_left : {A : Type 0} (xs gone ys : List A) → xs ++ (gone ++ ys) ≡ [] → xs ++ ys ≡ []
nothing_left [] [] ys none = none
nothing_left [] (g ∷ gone) ys none = absurd cc
nothing_left (x ∷ xs) gone ys none = absurd cc

no_more : {A : Type 0} (gone ys : List A) → gone ++ ys ≡ [] → ys ≡ []
no_more [] ys none = none
no_more (g ∷ gone) ys none = absurd cc

pub only_it : {A : Type 0} (xs gone ys : List A) (it z : A) (zs : List A) → gone ≡ z ∷ zs → xs ++ (gone ++ ys) ≡ it ∷ [] → xs ++ ys ≡ []
only_it [] gone ys it z zs some is =
    let both : z ∷ (zs ++ ys) ≡ it ∷ [] = ap (λ l. l ++ ys) (sym some) ∙ is in
    let rest : zs ++ ys ≡ [] = cc in
    no_more zs ys rest
only_it (x ∷ []) [] ys it z zs some is = absurd cc
only_it (x ∷ []) (g ∷ gone) ys it z zs some is = absurd cc
only_it (x ∷ y ∷ xs) gone ys it z zs some is = absurd cc

pub unmapped : {A B : Type 0} (f : A → B) (xs : List A) → map f xs ≡ [] → xs ≡ []
unmapped f [] none = refl
unmapped f (x ∷ xs) none = absurd cc
