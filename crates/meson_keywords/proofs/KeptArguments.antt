-- The arguments of a call, by their names, where the one of a name comes, goes or gets another value.
use Rattle.meson_keywords.proofs.Words.{◌≡◌, ℕ, suc, ◌+◌, true, false, List, [], ◌∷◌, ◌++◌, length, map, take, drop, Some, None, refl, sym, ap, ap₂, ◌∙◌, arith}
use Rattle.meson_keywords.proofs.Words.{Bool, if◌then◌else◌, bytes_eq, cond, is_none, option_map, cons_option, filter_map, take-append_seam, filter-append}
use Rattle.meson_keywords.proofs.Words.{filter_map-append, bytes_eq-Decides, nth, Name, bare_name, Nowhere, Expression, Argument, plain, named, pair}
use Rattle.meson_keywords.proofs.Words.{arguments_of, element_removed, Numbered, numbered, kept_number, value_with_name, exchanged_at, is_other, others}
use Rattle.meson_keywords.proofs.Words.{values_of, keyword_in}
use Rattle.std.proofs.Common.{append-nil}

-- ---- lists that are cut at an element

pub nth_seam : {A : Type 0} (front : List A) (x : A) (back : List A) → nth (front ++ x ∷ back) (length front) ≡ Some x
nth_seam [] x back = refl
nth_seam (y ∷ front) x back = nth_seam front x back

pub drop_seam : {A : Type 0} (front : List A) (x : A) (back : List A) → drop (suc (length front)) (front ++ x ∷ back) ≡ back
drop_seam [] x back = refl
drop_seam (y ∷ front) x back = drop_seam front x back

-- ---- the argument of a name

module _ (key : List ℕ) where
  abbrev named_from : List (Argument Nowhere) → ℕ → List (Numbered (Expression Nowhere))
  named_from xs n = filter_map (kept_number (value_with_name key)) (numbered n (arguments_of xs))

  by_name : (n : ℕ) (e : Expression Nowhere) (vs : List (Expression Nowhere)) (ws : List (Numbered (Expression Nowhere))) (b : Bool) → vs ≡ map (λ (w : Numbered (Expression Nowhere)). w.value) ws
      → cons_option (if b then Some e else None) vs ≡ map (λ (w : Numbered (Expression Nowhere)). w.value) (cons_option (option_map (λ y. record { number = n; value = y }) (if b then Some e else None)) ws)
  by_name n e vs ws true same = ap (λ l. e ∷ l) same
  by_name n e vs ws false same = same

  -- its values without their numbers
  values_from : (xs : List (Argument Nowhere)) (n : ℕ) → values_of key xs ≡ map (λ (w : Numbered (Expression Nowhere)). w.value) (named_from xs n)
  values_from [] n = refl
  values_from (plain e ∷ xs) n = values_from xs (n + 1)
  values_from (named s x e ∷ xs) n = by_name n e (values_of key xs) (named_from xs (n + 1)) (bytes_eq x.text key) (values_from xs (n + 1))
  values_from (pair s k e ∷ xs) n = values_from xs (n + 1)

  with_name : (s : Nowhere) (x : Name Nowhere) (e : Expression Nowhere) (b : Bool) → bytes_eq x.text key ≡ b → value_with_name key (named s x e) ≡ (if b then Some e else None)
  with_name s x e b is = ap (λ t. if t then Some e else None) is

  -- it stands once, with the number n
  pub record OneNamed (xs : List (Argument Nowhere)) (n : ℕ) (e : Expression Nowhere) : Type 0 where
    pub front : List (Argument Nowhere)
    pub place : Nowhere
    pub name : Name Nowhere
    pub back : List (Argument Nowhere)
    pub joined : xs ≡ front ++ named place name e ∷ back
    pub number : n ≡ length front
    pub is_name : bytes_eq name.text key ≡ true
    pub before : values_of key front ≡ []
    pub behind : values_of key back ≡ []

  one_later : (x : Argument Nowhere) (xs : List (Argument Nowhere)) (n m : ℕ) (e : Expression Nowhere) → value_with_name key x ≡ None → OneNamed xs m e → n ≡ suc m → OneNamed (x ∷ xs) n e
  one_later x xs n m e other o later =
      let number = o.number in
      record {
        front = x ∷ o.front;
        place = o.place;
        name = o.name;
        back = o.back;
        joined = ap (λ l. x ∷ l) o.joined;
        number = omega (arith, number, later);
        is_name = o.is_name;
        before = ap (λ v. cons_option v (values_of key o.front)) other ∙ o.before;
        behind = o.behind;
      }

  -- its number, counted from n on
  record OneFrom (xs : List (Argument Nowhere)) (n : ℕ) (v : Numbered (Expression Nowhere)) : Type 0 where
    number : ℕ
    is_number : v.number ≡ n + number
    one : OneNamed xs number v.value

  from_later : (x : Argument Nowhere) (xs : List (Argument Nowhere)) (n : ℕ) (v : Numbered (Expression Nowhere)) → value_with_name key x ≡ None → OneFrom xs (n + 1) v → OneFrom (x ∷ xs) n v
  from_later x xs n v other o =
      let number = o.is_number in
      record { number = suc o.number; is_number = omega (arith, number); one = one_later x xs (suc o.number) o.number v.value other o.one refl }

  one_by : (s : Nowhere) (x : Name Nowhere) (e : Expression Nowhere) (xs : List (Argument Nowhere)) (n : ℕ) (v : Numbered (Expression Nowhere)) (b : Bool) → bytes_eq x.text key ≡ b
      → cons_option (option_map (λ y. record { number = n; value = y }) (if b then Some e else None)) (named_from xs (n + 1)) ≡ v ∷ []
      → (named_from xs (n + 1) ≡ v ∷ [] → OneFrom xs (n + 1) v) → OneFrom (named s x e ∷ xs) n v
  one_by s x e xs n v true is there later =
      let same : v ≡ record { number = n; value = e } = cc in
      let none : named_from xs (n + 1) ≡ [] = cc in
      let number : v.number ≡ n = ap (λ (u : Numbered (Expression Nowhere)). u.number) same in
      let value : v.value ≡ e = ap (λ (u : Numbered (Expression Nowhere)). u.value) same in
      record {
        number = 0;
        is_number = omega (arith, number);
        one = record {
          front = [];
          place = s;
          name = x;
          back = xs;
          joined = ap (λ w. named s x w ∷ xs) (sym value);
          number = refl;
          is_name = is;
          before = refl;
          behind = values_from xs (n + 1) ∙ ap (map (λ (w : Numbered (Expression Nowhere)). w.value)) none;
        };
      }
  one_by s x e xs n v false is there later = from_later (named s x e) xs n v (with_name s x e false is) (later there)

  one_from : (xs : List (Argument Nowhere)) (n : ℕ) (v : Numbered (Expression Nowhere)) → named_from xs n ≡ v ∷ [] → OneFrom xs n v
  one_from [] n v is = absurd cc
  one_from (plain e ∷ xs) n v is = from_later (plain e) xs n v refl (one_from xs (n + 1) v is)
  one_from (named s x e ∷ xs) n v is = one_by s x e xs n v (bytes_eq x.text key) refl is (λ h. one_from xs (n + 1) v h)
  one_from (pair s k e ∷ xs) n v is = from_later (pair s k e) xs n v refl (one_from xs (n + 1) v is)

  pub one_named : (xs : List (Argument Nowhere)) (v : Numbered (Expression Nowhere)) → keyword_in key xs ≡ v ∷ [] → OneNamed xs v.number v.value
  one_named xs v is =
      let o = one_from xs 0 v is in
      let from = o.is_number in
      let counted = o.one.number in
      record {
        front = o.one.front;
        place = o.one.place;
        name = o.one.name;
        back = o.one.back;
        joined = o.one.joined;
        number = omega (arith, from, counted);
        is_name = o.one.is_name;
        before = o.one.before;
        behind = o.one.behind;
      }

  -- ---- it has another value, or goes

  module _ (xs : List (Argument Nowhere)) (n : ℕ) (e : Expression Nowhere) (o : OneNamed xs n e) where
    abbrev pub it : Argument Nowhere
    it = named o.place o.name e

    pub is_it : nth xs n ≡ Some it
    is_it = ap₂ nth o.joined o.number ∙ nth_seam o.front it o.back

    abbrev put : Expression Nowhere → List (Argument Nowhere)
    put w = o.front ++ named o.place o.name w ∷ o.back

    front_is : take n xs ≡ o.front
    front_is = ap₂ take o.number o.joined ∙ take-append_seam o.front (it ∷ o.back)

    back_is : drop (suc n) xs ≡ o.back
    back_is = ap₂ (λ m l. drop (suc m) l) o.number o.joined ∙ drop_seam o.front it o.back

    put_is : (w : Expression Nowhere) → exchanged_at n it xs w ≡ put w
    put_is w = ap₂ (λ front back. front ++ named o.place o.name w ∷ back) front_is back_is

    gone_is : element_removed n xs it ≡ o.front ++ o.back
    gone_is = ap₂ (λ front back. front ++ back) front_is back_is

    values_put : (w : Expression Nowhere) → values_of key (put w) ≡ w ∷ []
    values_put w =
        filter_map-append (value_with_name key) o.front (named o.place o.name w ∷ o.back)
        ∙ ap₂ (λ l v. l ++ cons_option v (values_of key o.back)) o.before (with_name o.place o.name w true o.is_name)
        ∙ ap (λ l. w ∷ l) o.behind

    others_put : (w : Expression Nowhere) → others key (put w) ≡ others key o.front ++ others key o.back
    others_put w =
        filter-append (is_other key) o.front (named o.place o.name w ∷ o.back)
        ∙ ap (λ v. others key o.front ++ cond (is_none v) (named o.place o.name w ∷ others key o.back) (others key o.back)) (with_name o.place o.name w true o.is_name)

    pub value_there : values_of key xs ≡ e ∷ []
    value_there = ap (values_of key) o.joined ∙ values_put e

    others_are : others key xs ≡ others key o.front ++ others key o.back
    others_are = ap (others key) o.joined ∙ others_put e

    pub put_value : (w : Expression Nowhere) → values_of key (exchanged_at n it xs w) ≡ w ∷ []
    put_value w = ap (values_of key) (put_is w) ∙ values_put w

    pub put_others : (w : Expression Nowhere) → others key (exchanged_at n it xs w) ≡ others key xs
    put_others w = ap (others key) (put_is w) ∙ others_put w ∙ sym others_are

    pub gone_value : values_of key (element_removed n xs it) ≡ []
    gone_value = ap (values_of key) gone_is ∙ filter_map-append (value_with_name key) o.front o.back ∙ ap₂ (λ l m. l ++ m) o.before o.behind

    pub gone_others : others key (element_removed n xs it) ≡ others key xs
    gone_others = ap (others key) gone_is ∙ filter-append (is_other key) o.front o.back ∙ sym others_are

  -- ---- it comes behind all others

  pub none_there : (xs : List (Argument Nowhere)) → keyword_in key xs ≡ [] → values_of key xs ≡ []
  none_there xs none = values_from xs 0 ∙ ap (map (λ (w : Numbered (Expression Nowhere)). w.value)) none

  abbrev new : Expression Nowhere → Argument Nowhere
  new w = named tt (bare_name key) w

  new_named : (w : Expression Nowhere) → value_with_name key (new w) ≡ Some w
  new_named w = with_name tt (bare_name key) w true ((bytes_eq-Decides key key).1 refl)

  pub come_value : (xs : List (Argument Nowhere)) (w : Expression Nowhere) → keyword_in key xs ≡ [] → values_of key (xs ++ new w ∷ []) ≡ w ∷ []
  come_value xs w none =
      filter_map-append (value_with_name key) xs (new w ∷ []) ∙ ap₂ (λ l v. l ++ cons_option v []) (none_there xs none) (new_named w)

  pub come_others : (xs : List (Argument Nowhere)) (w : Expression Nowhere) → others key (xs ++ new w ∷ []) ≡ others key xs
  come_others xs w =
      filter-append (is_other key) xs (new w ∷ []) ∙ ap (λ v. others key xs ++ cond (is_none v) (new w ∷ []) []) (new_named w) ∙ append-nil (others key xs)
