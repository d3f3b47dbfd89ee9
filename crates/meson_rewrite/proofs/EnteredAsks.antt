-- How often a store was asked once names are entered one after another, as a function.
use Rattle.std.proofs.Common.{◌≡◌, ◌≤◌, ◌<◌, ◌+◌, ◌-◌, ◌^◌, ◌⊎◌, ◌∙◌, ℕ, List, [], ◌∷◌, ◌++◌, inl, inr, refl, sym, ap, subst, arith}
use Rattle.std.specs.Prelude.{Option, Some, None, is_some, true, option_and_then, option_map}
use Rattle.std.proofs.Math.Nat.{min-eq_left, min-eq_right}
use Rattle.std.proofs.lemmas.Bool.{cases_order}
use Rattle.meson_splice.specs.declared.file_set.File.{File}
use Rattle.meson_splice.specs.Files.{position_of_file}
use Rattle.meson_syntax.proofs.parsing.Unique.{one-spanned}
use Rattle.meson_calls.specs.declared.call.Reading.{Reading}
use Rattle.meson_entering.specs.Entering.{files_entered}
use Rattle.meson_store.specs.StoreCalls.{one_more}
use Rattle.meson_store.specs.Content.{Content}
use Rattle.meson_gathering.specs.Gathering.{Enters, files_with, held_bytes}
use Rattle.meson_gathering.specs.ReadCounts.{EntersEach, EntersOne, is_read, is_there, next_name, no_name}

-- below its end the count rises
pub more : (n : ℕ) → one_more n < 2 ^ 64 - 1 → one_more n ≡ n + 1
more n h =
    elim (cases_order (n + 1) (2 ^ 64 - 1)) [
      | inl same ↦ let le : n + 1 ≤ 2 ^ 64 - 1 = omega (arith, same) in min-eq_left le
      | inr (inl less) ↦ let le : n + 1 ≤ 2 ^ 64 - 1 = omega (arith, less) in min-eq_left le
      | inr (inr over) ↦
          let le : 2 ^ 64 - 1 ≤ n + 1 = omega (arith, over) in
          let is : one_more n ≡ 2 ^ 64 - 1 = min-eq_right le in
          absurd (omega (arith, h, is))
    ]

head-same : (x y : List ℕ) (xs ys : List (List ℕ)) → x ∷ xs ≡ y ∷ ys → x ≡ y
head-same x y xs ys e = cc

tail-same : (x y : List ℕ) (xs ys : List (List ℕ)) → x ∷ xs ≡ y ∷ ys → xs ≡ ys
tail-same x y xs ys e = cc

-- one list cut at two names: at the same, or at the other one before or behind it
pub cuts : (d1 d2 r1 r2 : List (List ℕ)) (n1 n2 : List ℕ) → d1 ++ n1 ∷ r1 ≡ d2 ++ n2 ∷ r2
    → (n1 ≡ n2) ⊎ (((r : List (List ℕ)) × (d2 ≡ d1 ++ n1 ∷ r)) ⊎ ((r : List (List ℕ)) × (d1 ≡ d2 ++ n2 ∷ r)))
cuts [] [] r1 r2 n1 n2 e = inl (head-same n1 n2 r1 r2 e)
cuts [] (y ∷ d2) r1 r2 n1 n2 e = inr (inl (d2, ap (λ h. h ∷ d2) (sym (head-same n1 y r1 (d2 ++ n2 ∷ r2) e))))
cuts (x ∷ d1) [] r1 r2 n1 n2 e = inr (inr (d1, ap (λ h. h ∷ d1) (head-same x n2 (d1 ++ n1 ∷ r1) r2 e)))
cuts (x ∷ d1) (y ∷ d2) r1 r2 n1 n2 e =
    let same = head-same x y (d1 ++ n1 ∷ r1) (d2 ++ n2 ∷ r2) e in
    elim (cuts d1 d2 r1 r2 n1 n2 (tail-same x y (d1 ++ n1 ∷ r1) (d2 ++ n2 ∷ r2) e)) [
      | inl is ↦ inl is
      | inr (inl (r, is)) ↦ inr (inl (r, ap (λ h. h ∷ d2) (sym same) ∙ ap (λ t. x ∷ t) is))
      | inr (inr (r, is)) ↦ inr (inr (r, ap (λ h. h ∷ d1) same ∙ ap (λ t. y ∷ t) is))
    ]

pub names-same : (reading : Reading) (name bytes : List ℕ) (a b : List (List ℕ)) → Enters reading name bytes a → Enters reading name bytes b → a ≡ b
names-same reading name bytes a b (t, of_t, is_a) (s, of_s, is_b) = is_a ∙ ap (λ tree. files_entered reading (record { name = name; tree = tree })) (one-spanned bytes t s of_t of_s) ∙ sym is_b

-- ---- the files that are there, and how often the store was asked

abbrev pub At : Type 0
At = List File × ℕ

module _ (held : Content) (folder : Option (List ℕ)) where
  abbrev at-one : List ℕ → List File → ℕ → Option ℕ → Option At
  at-one name files n (Some i) = Some (files, n)
  at-one name files n None = option_map (λ fs. (fs, one_more n)) (files_with files name None (held_bytes held folder name))

  abbrev one : List ℕ → At → Option At
  one name s = at-one name s.0 s.1 (position_of_file name s.0)

  -- once names are entered
  abbrev pub each : List (List ℕ) → At → Option At
  each [] s = Some s
  each (name ∷ names) s = option_and_then (each names) (one name s)

  there-one : (name : List ℕ) (files : List File) (n : ℕ) (o : Option ℕ) → is_some o ≡ true → at-one name files n o ≡ Some (files, n)
  there-one name files n (Some i) is = refl
  there-one name files n None is = absurd (let no : ⊥ = cc in no)

  one-is : (name : List ℕ) (files new : List File) (n m : ℕ) → EntersOne (Some held) folder name files n new m → one name (files, n) ≡ Some (new, m)
  one-is name files _ n _ (is_there is) = there-one name files n (position_of_file name files) is
  one-is name files _ n _ (is_read bytes new absent told with_) =
      ap (at-one name files n) absent
      ∙ ap (λ b. option_map (λ fs. (fs, one_more n)) (files_with files name None b)) (sym (told held refl))
      ∙ ap (option_map (λ fs. (fs, one_more n))) with_

  just : (o : Option At) → option_and_then (each []) o ≡ o
  just None = refl
  just (Some s) = refl

  each-more : (names : List (List ℕ)) (name : List ℕ) (s : At) → each (names ++ name ∷ []) s ≡ option_and_then (one name) (each names s)
  each-more [] name s = just (one name s)
  each-more (x ∷ names) name s = go (one x s) (each-more names name)
    where
      go : (o : Option At) → ((t : At) → each (names ++ name ∷ []) t ≡ option_and_then (one name) (each names t))
          → option_and_then (each (names ++ name ∷ [])) o ≡ option_and_then (one name) (option_and_then (each names) o)
      go None rest = refl
      go (Some t) rest = rest t

  pub each-is : (files : List File) (n : ℕ) (names : List (List ℕ)) (new : List File) (m : ℕ) → EntersEach (Some held) folder files n names new m → each names (files, n) ≡ Some (new, m)
  each-is files n _ _ _ no_name = refl
  each-is files n _ _ _ (next_name names name there new k m all last) =
      each-more names name (files, n) ∙ ap (option_and_then (one name)) (each-is files n names there k all) ∙ one-is name there new k m last

  -- ---- the count grows

  pub some-same : (a b : At) → Some a ≡ Some b → a ≡ b
  some-same a b e = cc

  at-one-grows : (name : List ℕ) (files : List File) (n : ℕ) (o : Option ℕ) (t : At) → at-one name files n o ≡ Some t → t.1 < 2 ^ 64 - 1 → n ≤ t.1
  at-one-grows name files n (Some i) t is low = let e : n ≡ t.1 = ap (λ a. a.1) (some-same (files, n) t is) in omega (arith, e)
  at-one-grows name files n None t is low = go (files_with files name None (held_bytes held folder name)) is
    where
      go : (o : Option (List File)) → option_map (λ fs. (fs, one_more n)) o ≡ Some t → n ≤ t.1
      go None e = absurd (let no : ⊥ = cc in no)
      go (Some fs) e =
          let e : one_more n ≡ t.1 = ap (λ a. a.1) (some-same (fs, one_more n) t e) in
          let next = more n (subst (λ k. k < 2 ^ 64 - 1) (sym e) low) in
          omega (arith, e, next)

  -- a name that no file has
  new-grows : (name : List ℕ) (s t : At) → position_of_file name s.0 ≡ None → one name s ≡ Some t → t.1 < 2 ^ 64 - 1 → t.1 ≡ s.1 + 1
  new-grows name s t absent is low = go (files_with s.0 name None (held_bytes held folder name)) (ap (at-one name s.0 s.1) (sym absent) ∙ is)
    where
      go : (o : Option (List File)) → option_map (λ fs. (fs, one_more s.1)) o ≡ Some t → t.1 ≡ s.1 + 1
      go None e = absurd (let no : ⊥ = cc in no)
      go (Some fs) e =
          let e : one_more s.1 ≡ t.1 = ap (λ a. a.1) (some-same (fs, one_more s.1) t e) in
          sym e ∙ more s.1 (subst (λ k. k < 2 ^ 64 - 1) (sym e) low)

  pub each-grows : (names : List (List ℕ)) (s t : At) → each names s ≡ Some t → t.1 < 2 ^ 64 - 1 → s.1 ≤ t.1
  each-grows [] s t is low = let e : s.1 ≡ t.1 = ap (λ a. a.1) (some-same s t is) in omega (arith, e)
  each-grows (name ∷ names) s t is low = go (one name s) refl is (λ u e. each-grows names u t e low)
    where
      go : (o : Option At) → one name s ≡ o → option_and_then (each names) o ≡ Some t → ((u : At) → each names u ≡ Some t → u.1 ≤ t.1) → s.1 ≤ t.1
      go None first e later = absurd (let no : ⊥ = cc in no)
      go (Some u) first e later =
          let rest : u.1 ≤ t.1 = later u e in
          let below : u.1 < 2 ^ 64 - 1 = omega (arith, rest, low) in
          let start : s.1 ≤ u.1 = at-one-grows name s.0 s.1 (position_of_file name s.0) u first below in
          omega (arith, rest, start)

  -- where all names are entered, the store was asked for this one too
  pub passed : (done rest : List (List ℕ)) (name : List ℕ) (s t u : At) → each (done ++ name ∷ rest) s ≡ Some t → each done s ≡ Some u → position_of_file name u.0 ≡ None
      → t.1 < 2 ^ 64 - 1 → u.1 + 1 ≤ t.1
  passed [] rest name s t u all so_far absent low = go (one name s) refl all
    where
      same : s ≡ u
      same = some-same s u so_far

      go : (o : Option At) → one name s ≡ o → option_and_then (each rest) o ≡ Some t → u.1 + 1 ≤ t.1
      go None first e = absurd (let no : ⊥ = cc in no)
      go (Some v) first e =
          let after : v.1 ≤ t.1 = each-grows rest v t e low in
          let below : v.1 < 2 ^ 64 - 1 = omega (arith, after, low) in
          let step : v.1 ≡ s.1 + 1 = new-grows name s v (subst (λ a. position_of_file name a.0 ≡ None) (sym same) absent) first below in
          let is : s.1 ≡ u.1 = ap (λ a. a.1) same in
          omega (arith, after, step, is)
  passed (x ∷ done) rest name s t u all so_far absent low = go (one x s) all so_far (λ v e f. passed done rest name v t u e f absent low)
    where
      go : (o : Option At) → option_and_then (each (done ++ name ∷ rest)) o ≡ Some t → option_and_then (each done) o ≡ Some u
          → ((v : At) → each (done ++ name ∷ rest) v ≡ Some t → each done v ≡ Some u → u.1 + 1 ≤ t.1) → u.1 + 1 ≤ t.1
      go None e f later = absurd (let no : ⊥ = cc in no)
      go (Some v) e f later = later v e f
