-- The elements that pass a test: those that are left where they go one after another, and the first one exchanged.
use Rattle.meson_keywords.proofs.Words.{◌≡◌, ℕ, suc, ◌+◌, ◌-◌, true, false, List, [], ◌∷◌, ◌++◌, append_assoc, length, length-append, take, drop, refl, sym, ap}
use Rattle.meson_keywords.proofs.Words.{ap₂, ◌∙◌, subst, arith, Bool, ◌&&◌, cond, if◌then◌else◌, is_some, not, filter, take-append_seam, Nowhere, Argument}
use Rattle.meson_keywords.proofs.Words.{plain, named, pair, is_of, all_of_kind, element_text, passing, has_key, is_entry_element, key_text, keys_known}
use Rattle.meson_keywords.specs.declared.value_kinds.ElementKind.TheVariants as element
use Rattle.meson_keywords.proofs.KeptArguments.{drop_seam}

-- ---- those that are left

-- where the elements of these numbers go one after another, and so many before them have gone
abbrev pub left_after : {A : Type 0} → ℕ → List ℕ → List A → List A
left_after gone [] ys = ys
left_after gone (m ∷ ns) ys = left_after (suc gone) ns (take (m - gone) ys ++ drop (suc (m - gone)) ys)

module _ {A : Type 0} (test : A → Bool) where
  abbrev left : List A → List A
  left ys = filter (λ x. not (test x)) ys

  gone_by : (y : A) (ys : List A) (gone : ℕ) (front : List A) (b : Bool) → test y ≡ b
      → left_after (suc gone) (passing test (suc (gone + length front)) ys) (front ++ ys) ≡ front ++ left ys
      → left_after gone (passing test (gone + length (front ++ y ∷ [])) ys) ((front ++ y ∷ []) ++ ys) ≡ (front ++ y ∷ []) ++ left ys
      → left_after gone (if b then (gone + length front) ∷ passing test (suc (gone + length front)) ys else passing test (suc (gone + length front)) ys) (front ++ y ∷ ys) ≡ front ++ left (y ∷ ys)
  gone_by y ys gone front true is next later =
      let at : gone + length front - gone ≡ length front = omega arith in
      let cut : take (gone + length front - gone) (front ++ y ∷ ys) ++ drop (suc (gone + length front - gone)) (front ++ y ∷ ys) ≡ front ++ ys =
      ap (λ m. take m (front ++ y ∷ ys) ++ drop (suc m) (front ++ y ∷ ys)) at ∙ ap₂ (λ l m. l ++ m) (take-append_seam front (y ∷ ys)) (drop_seam front y ys) in
      ap (left_after (suc gone) (passing test (suc (gone + length front)) ys)) cut ∙ next ∙ ap (λ t. front ++ cond (not t) (y ∷ left ys) (left ys)) (sym is)
  gone_by y ys gone front false is next later =
      let at : gone + length (front ++ y ∷ []) ≡ suc (gone + length front) = omega (arith, length-append front (y ∷ [])) in
      ap₂ (λ m l. left_after gone (passing test m ys) l) (sym at) (sym (append_assoc front (y ∷ []) ys)) ∙ later ∙ append_assoc front (y ∷ []) (left ys) ∙ ap (λ t. front ++ cond (not t) (y ∷ left ys) (left ys)) (sym is)

  gone_from : (ys : List A) (gone : ℕ) (front : List A) → left_after gone (passing test (gone + length front) ys) (front ++ ys) ≡ front ++ left ys
  gone_from [] gone front = refl
  gone_from (y ∷ ys) gone front = gone_by y ys gone front (test y) refl (subst (λ m. left_after (suc gone) (passing test m ys) (front ++ ys) ≡ front ++ left ys) (omega arith) (gone_from ys (suc gone) front)) (gone_from ys gone (front ++ y ∷ []))

  -- those behind `front`
  pub passing_gone : (ys : List A) (gone : ℕ) (front : List A) → left_after gone (passing test (gone + length front) ys) (front ++ ys) ≡ front ++ left ys
  passing_gone ys gone front = gone_from ys gone front

  none_by : (y : A) (ys : List A) (b : Bool) → test y ≡ b → filter test (left ys) ≡ [] → filter test (cond (not b) (y ∷ left ys) (left ys)) ≡ []
  none_by y ys true is none = none
  none_by y ys false is none = ap (λ t. cond t (y ∷ filter test (left ys)) (filter test (left ys))) is ∙ none

  -- none of them passes
  pub none_left : (ys : List A) → filter test (left ys) ≡ []
  none_left [] = refl
  none_left (y ∷ ys) = none_by y ys (test y) refl (none_left ys)

  again_by : (y : A) (ys : List A) (b : Bool) → test y ≡ b → left (left ys) ≡ left ys → left (cond (not b) (y ∷ left ys) (left ys)) ≡ cond (not b) (y ∷ left ys) (left ys)
  again_by y ys true is same = same
  again_by y ys false is same = ap (λ t. cond (not t) (y ∷ left (left ys)) (left (left ys))) is ∙ ap (λ l. y ∷ l) same

  pub kept_again : (ys : List A) → left (left ys) ≡ left ys
  kept_again [] = refl
  kept_again (y ∷ ys) = again_by y ys (test y) refl (kept_again ys)

  -- ---- where none passes, and where one does

  none_pass_by : (y : A) (ys : List A) (start : ℕ) (b : Bool) → test y ≡ b → (if b then start ∷ passing test (suc start) ys else passing test (suc start) ys) ≡ [] → (passing test (suc start) ys ≡ [] → (filter test ys ≡ []) × (left ys ≡ ys))
      → (cond b (y ∷ filter test ys) (filter test ys) ≡ []) × (cond (not b) (y ∷ left ys) (left ys) ≡ y ∷ ys)
  none_pass_by y ys start true is none later = absurd cc
  none_pass_by y ys start false is none later = let l = later none in (l.0, ap (λ m. y ∷ m) l.1)

  pub none_pass : (ys : List A) (start : ℕ) → passing test start ys ≡ [] → (filter test ys ≡ []) × (left ys ≡ ys)
  none_pass [] start none = (refl, refl)
  none_pass (y ∷ ys) start none = none_pass_by y ys start (test y) refl none (λ h. none_pass ys (suc start) h)

  -- the first that passes, and the numbers of the later ones
  pub record FirstPasses (ys : List A) (start m : ℕ) (more : List ℕ) : Type 0 where
    pub front : List A
    pub it : A
    pub back : List A
    pub joined : ys ≡ front ++ it ∷ back
    pub number : m ≡ start + length front
    pub passes : test it ≡ true
    pub before : filter test front ≡ []
    pub stay : left front ≡ front
    pub rest : more ≡ passing test (suc m) back

  first_by : (y : A) (ys : List A) (start m : ℕ) (more : List ℕ) (b : Bool) → test y ≡ b → (if b then start ∷ passing test (suc start) ys else passing test (suc start) ys) ≡ m ∷ more
      → (passing test (suc start) ys ≡ m ∷ more → FirstPasses ys (suc start) m more) → FirstPasses (y ∷ ys) start m more
  first_by y ys start m more true passes is later =
      let number : m ≡ start = cc in
      let rest : more ≡ passing test (suc start) ys = cc in
      record {
        front = [];
        it = y;
        back = ys;
        joined = refl;
        number = omega (arith, number);
        passes = passes;
        before = refl;
        stay = refl;
        rest = rest ∙ ap (λ n. passing test (suc n) ys) (sym number);
      }
  first_by y ys start m more false fails is later =
      let f = later is in
      let number = f.number in
      record {
        front = y ∷ f.front;
        it = f.it;
        back = f.back;
        joined = ap (λ l. y ∷ l) f.joined;
        number = omega (arith, number);
        passes = f.passes;
        before = ap (λ t. cond t (y ∷ filter test f.front) (filter test f.front)) fails ∙ f.before;
        stay = ap (λ t. cond (not t) (y ∷ left f.front) (left f.front)) fails ∙ ap (λ l. y ∷ l) f.stay;
        rest = f.rest;
      }

  pub first_passes : (ys : List A) (start m : ℕ) (more : List ℕ) → passing test start ys ≡ m ∷ more → FirstPasses ys start m more
  first_passes [] start m more is = absurd cc
  first_passes (y ∷ ys) start m more is = first_by y ys start m more (test y) refl is (λ h. first_passes ys (suc start) m more h)

-- ---- entries of an option among elements that are known

module _ (name : List ℕ) where
  same_by : (x : Argument Nowhere) (t : Bool) (start : ℕ) (here there : List ℕ) → here ≡ there → (if t then start ∷ here else here) ≡ (if t then start ∷ there else there)
  same_by x t start here there same = ap (λ l. if t then start ∷ l else l) same

  pub rest_known : (a b : Bool) → (a && b) ≡ true → b ≡ true
  rest_known true b is = is
  rest_known false b is = absurd cc

  pub entry_tests : (ys : List (Argument Nowhere)) (start : ℕ) → all_of_kind element.Text ys ≡ true → passing (is_entry_element name) start ys ≡ passing (is_of name) start ys
  entry_tests [] start known = refl
  entry_tests (plain e ∷ ys) start known =
      same_by (plain e) (is_of name (plain e)) start (passing (is_entry_element name) (suc start) ys) (passing (is_of name) (suc start) ys)
      (entry_tests ys (suc start) (rest_known (is_some (element_text element.Text (plain e))) (all_of_kind element.Text ys) known))
  entry_tests (named s x e ∷ ys) start known = absurd cc
  entry_tests (pair s e f ∷ ys) start known = absurd cc

  pub key_tests : (ys : List (Argument Nowhere)) (start : ℕ) → keys_known ys ≡ true → passing (has_key name) start ys ≡ passing (is_of name) start ys
  key_tests [] start known = refl
  key_tests (plain e ∷ ys) start known = absurd cc
  key_tests (named s x e ∷ ys) start known = absurd cc
  key_tests (pair s e f ∷ ys) start known =
      same_by (pair s e f) (is_of name (pair s e f)) start (passing (has_key name) (suc start) ys) (passing (is_of name) (suc start) ys)
      (key_tests ys (suc start) (rest_known (is_some (key_text (pair s e f))) (keys_known ys) known))
