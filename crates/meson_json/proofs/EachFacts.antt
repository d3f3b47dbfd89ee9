-- Loops that read each item of an array, or each member of an object: what is done, and what is left.
use Rattle.std.proofs.Common.{◌≡◌, ◌∙◌, Bool, true, false, ◌&&◌, ℕ, suc, ◌+◌, ◌<◌, List, [], ◌∷◌, ◌++◌, length, drop, get_or, Option, Some, None, Global, String, string_bytes, refl, sym, ap, add-one, append_assoc, append-nil}
use Rattle.std.specs.Prelude.{option_map}
use Rattle.std.specs.List.{list_all}
use Rattle.std.proofs.lemmas.List.Folds.{list_all-append}
use Rattle.std.proofs.Math.Seq.{drop-cons, drop-length}
use Rattle.serde_json.specs.Data.{Data}
use Rattle.serde_json.specs.View.{view, items_view, members_view}
use Rattle.serde_json.specs.declared.value.Value.{Value}
use Rattle.meson_json.specs.Each.{each_of, each_member, names_of_members}

-- what is done, before what comes
abbrev pub after : {A : Type 0} → List A → Option (List A) → Option (List A)
after done r = option_map (λ rest. done ++ rest) r

onto : {A : Type 0} (done : List A) (x : A) (r : Option (List A)) → after done (option_map (λ xs. x ∷ xs) r) ≡ after (done ++ x ∷ []) r
onto done x None = refl
onto done x (Some rest) = ap (λ t. Some t) (sym (append_assoc done (x ∷ []) rest))

-- ---- the items of an array

pub each_of-more : {A : Type 0} (f : Data → Option A) (vs : List Value) (i : ℕ) (done : List A) (v : Value) (x : A) → i < length vs → v ≡ get_or vs i v → f (view v) ≡ Some x
    → after done (each_of f (items_view (drop i vs))) ≡ after (done ++ x ∷ []) (each_of f (items_view (drop (i + 1) vs)))
unfolding each_of
each_of-more f vs i done v x h is gives = rw (drop-cons vs i v, ← is, gives, add-one) (onto done x (each_of f (items_view (drop (suc i) vs))))

pub each_of-refuses : {A : Type 0} (f : Data → Option A) (vs : List Value) (i : ℕ) (done : List A) (v : Value) → i < length vs → v ≡ get_or vs i v → f (view v) ≡ None
    → after done (each_of f (items_view (drop i vs))) ≡ None
unfolding each_of
each_of-refuses f vs i done v h is gives = rw (drop-cons vs i v, ← is, gives) refl

pub each_of-all : {A : Type 0} (f : Data → Option A) (vs : List Value) (i : ℕ) (done : List A) → length vs ≡ i → after done (each_of f (items_view (drop i vs))) ≡ Some done
unfolding each_of
each_of-all f vs i done h = rw (← h, drop-length vs, append-nil) refl

-- ---- the members of an object

abbrev pub Entry : Type 0
Entry = String Global × Value

pub each_member-more : {A : Type 0} (f : Data → Option A) (es left : List Entry) (e : Entry) (done : List (List ℕ × A)) (x : A) → es ≡ e ∷ left → f (view e.1) ≡ Some x
    → after done (each_member f (members_view es)) ≡ after (done ++ (string_bytes e.0, x) ∷ []) (each_member f (members_view left))
unfolding each_member
each_member-more f es left e done x is gives = rw (is, gives) (onto done (string_bytes e.0, x) (each_member f (members_view left)))

pub each_member-refuses : {A : Type 0} (f : Data → Option A) (es left : List Entry) (e : Entry) (done : List (List ℕ × A)) → es ≡ e ∷ left → f (view e.1) ≡ None
    → after done (each_member f (members_view es)) ≡ None
unfolding each_member
each_member-refuses f es left e done is gives = rw (is, gives) refl

pub each_member-all : {A : Type 0} (f : Data → Option A) (es : List Entry) (done : List (List ℕ × A)) → es ≡ [] → after done (each_member f (members_view es)) ≡ Some done
unfolding each_member
each_member-all f es done is = rw (is, append-nil) refl

pub names_of-more : (es left : List Entry) (e : Entry) (done : List (List ℕ)) → es ≡ e ∷ left → done ++ names_of_members (members_view es) ≡ (done ++ string_bytes e.0 ∷ []) ++ names_of_members (members_view left)
unfolding names_of_members
names_of-more es left e done is = rw is (sym (append_assoc done (string_bytes e.0 ∷ []) (names_of_members (members_view left))))

pub names_of-all : (es : List Entry) (done : List (List ℕ)) → es ≡ [] → done ++ names_of_members (members_view es) ≡ done
unfolding names_of_members
names_of-all es done is = rw is (append-nil done)

-- ---- a test of each

both : (a b : Bool) → a ≡ true → b ≡ true → (a && b) ≡ true
both true b h k = k
both false b h k = absurd (let bad : ⊥ = cc in bad)

pub all-more : {A : Type 0} (test : A → Bool) (xs : List A) (x : A) → list_all test xs ≡ true → test x ≡ true → list_all test (xs ++ x ∷ []) ≡ true
all-more test xs x h k = list_all-append test xs (x ∷ []) ∙ both (list_all test xs) (list_all test (x ∷ [])) h (both (test x) true k refl)
