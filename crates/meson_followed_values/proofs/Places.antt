-- Places that are the same, and elements of lists.
use Rattle.std.proofs.Common.{◌≡◌, true, false, List, [], ◌∷◌, ◌++◌, Some, refl, sym, ap, ◌∙◌, inl, inr}
use Rattle.std.specs.Prelude.{Bool, ◌==◌, ◌||◌, bytes_eq, map}
use Rattle.std.specs.List.{All, Contains, list_all}
use Rattle.std.proofs.lemmas.Bool.{and_from, and_parts, eq-eqb, eqb-true}
use Rattle.std.proofs.lemmas.List.Elements.{All-cons, All-nil}
use Rattle.std.proofs.lemmas.Slice.Eq.{bytes_eq-Decides}
use Rattle.meson_syntax.proofs.paths.Every.{Every}
use Rattle.meson_calls.specs.declared.call.CallRef.{CallRef}
use Rattle.meson_calls.specs.Project.{place}
use Rattle.meson_following.specs.Following.{one_of_places}
use Rattle.meson_following.specs.Makers.{is_same_place}
use Rattle.meson_places.specs.ValueLists.{last_of}
use Rattle.meson_places.proofs.Found.{Among, among}

-- ---- places

pub same_place : (c d : CallRef) → is_same_place c d ≡ true → c ≡ d
same_place c d same =
    let both = and_parts (c.file == d.file) (bytes_eq c.path.steps d.path.steps) same in
    ap (λ n. place n c.path.steps) (eqb-true c.file d.file both.0) ∙ ap (place d.file) ((bytes_eq-Decides c.path.steps d.path.steps).0 both.1)

pub itself_same : (c : CallRef) → is_same_place c c ≡ true
itself_same c =
    and_from (c.file == c.file) (bytes_eq c.path.steps c.path.steps) (eq-eqb c.file c.file refl) ((bytes_eq-Decides c.path.steps c.path.steps).1 refl)

pub one_of : (qs : List CallRef) (q : CallRef) → one_of_places qs q ≡ true → Among qs q
one_of [] q is = absurd (let no : ⊥ = cc in no)
one_of (c ∷ cs) q is = go (is_same_place c q) refl is (one_of cs q)
  where
    go : (b : Bool) → is_same_place c q ≡ b → (b || one_of_places cs q) ≡ true → (one_of_places cs q ≡ true → Among cs q) → Among (c ∷ cs) q
    go true same h rest = inl (same_place c q same)
    go false same h rest = inr (rest h)

pub is_one : (qs : List CallRef) (q : CallRef) → Among qs q → one_of_places qs q ≡ true
is_one [] q m = absurd m
is_one (c ∷ cs) q (inl same) = ap (λ b. b || one_of_places cs q) (ap (λ d. is_same_place d q) same ∙ itself_same q)
is_one (c ∷ cs) q (inr m) = go (is_same_place c q) (is_one cs q m)
  where
    go : (b : Bool) → one_of_places cs q ≡ true → (b || one_of_places cs q) ≡ true
    go true h = refl
    go false h = h

-- ---- elements

pub within : {X : Type 0} (xs : List X) (x : X) → Contains xs x → Among xs x
within xs x c = among xs x c.0 c.1 c.2

pub last_among : {X : Type 0} (xs : List X) (x : X) → last_of xs ≡ Some x → Among xs x
last_among [] x is = absurd (let no : ⊥ = cc in no)
last_among (y ∷ []) x is = inl (let same : y ≡ x = cc in same)
last_among (y ∷ z ∷ more) x is = inr (last_among (z ∷ more) x is)

pub passes : {X : Type 0} (test : X → Bool) (xs : List X) (x : X) → list_all test xs ≡ true → Among xs x → test x ≡ true
passes test [] x all m = absurd m
passes test (y ∷ ys) x all (inl same) = sym (ap test same) ∙ (and_parts (test y) (list_all test ys) all).0
passes test (y ∷ ys) x all (inr m) = passes test ys x (and_parts (test y) (list_all test ys) all).1 m

pub map_among : {X Y : Type 0} (f : X → Y) (xs : List X) (x : X) → Among xs x → Among (map f xs) (f x)
map_among f [] x m = absurd m
map_among f (y ∷ ys) x (inl same) = inl (ap f same)
map_among f (y ∷ ys) x (inr m) = inr (map_among f ys x m)

pub among_left : {X : Type 0} (xs ys : List X) (x : X) → Among xs x → Among (xs ++ ys) x
among_left [] ys x m = absurd m
among_left (z ∷ xs) ys x (inl same) = inl same
among_left (z ∷ xs) ys x (inr m) = inr (among_left xs ys x m)

pub among_right : {X : Type 0} (xs ys : List X) (x : X) → Among ys x → Among (xs ++ ys) x
among_right [] ys x m = m
among_right (z ∷ xs) ys x m = inr (among_right xs ys x m)

pub every_of : {X : Type 0} (P : X → Type 0) (xs : List X) → ((x : X) → Among xs x → P x) → Every P xs
every_of P [] all = tt
every_of P (x ∷ xs) all = (all x (inl refl), every_of P xs (λ y m. all y (inr m)))

pub all_of : {X : Type 0} (P : X → Type 0) (xs : List X) → ((x : X) → Among xs x → P x) → All P xs
all_of P [] all = All-nil P
all_of P (x ∷ xs) all = All-cons P x xs (all x (inl refl)) (all_of P xs (λ y m. all y (inr m)))
