-- What marks say, and what becomes of what is met in another tree.
use Rattle.meson_sources.proofs.Words.{[], ap, append_assoc, ap₂, Bool, false, List, map, None, Option, refl, Some, suc, sym, true, ℕ, ◌++◌, ◌∙◌, ◌∷◌, ◌≡◌}
use Rattle.meson_sources.proofs.Words.{Nowhere, Every, every-append, CallRef, both_expanded, empty, Expansion, known, Mark, met, opaque, or_empty, within}
use Rattle.meson_sources.proofs.Words.{items, opaque_count, TextsCome}
use Rattle.meson_sources.proofs.trees.Places.{list_of_mark}

-- ==== What marks say without places: of each known source its text, and each that is not known.

abbrev pub Gist : Type 0
Gist = List (Option (List ℕ))

abbrev pub gist : {S : Type 0} → List (Mark S) → Gist
gist [] = []
gist (known i ∷ ms) = Some i.text ∷ gist ms
gist (opaque ∷ ms) = None ∷ gist ms
gist (empty p ∷ ms) = gist ms

pub gist_append : {S : Type 0} (xs ys : List (Mark S)) → gist (xs ++ ys) ≡ gist xs ++ gist ys
gist_append [] ys = refl
gist_append (known i ∷ xs) ys = ap (λ l. Some i.text ∷ l) (gist_append xs ys)
gist_append (opaque ∷ xs) ys = ap (λ l. None ∷ l) (gist_append xs ys)
gist_append (empty p ∷ xs) ys = gist_append xs ys

pub gist_within : {S : Type 0} (p : CallRef) (ms : List (Mark S)) → gist (or_empty p ms) ≡ gist ms
gist_within p [] = refl
gist_within p (m ∷ ms) = refl

-- ---- texts, and how many are not known

abbrev pub texts : Gist → List (List ℕ)
texts [] = []
texts (Some x ∷ g) = x ∷ texts g
texts (None ∷ g) = texts g

abbrev pub unknown : Gist → ℕ
unknown [] = 0
unknown (Some x ∷ g) = unknown g
unknown (None ∷ g) = suc (unknown g)

pub texts_are : {S : Type 0} (ms : List (Mark S)) → map (λ i. i.text) (items ms) ≡ texts (gist ms)
texts_are [] = refl
texts_are (known i ∷ ms) = ap (λ l. i.text ∷ l) (texts_are ms)
texts_are (opaque ∷ ms) = texts_are ms
texts_are (empty p ∷ ms) = texts_are ms

pub unknown_is : {S : Type 0} (ms : List (Mark S)) → opaque_count ms ≡ unknown (gist ms)
unknown_is [] = refl
unknown_is (known i ∷ ms) = unknown_is ms
unknown_is (opaque ∷ ms) = ap suc (unknown_is ms)
unknown_is (empty p ∷ ms) = unknown_is ms

texts_append : (g h : Gist) → texts (g ++ h) ≡ texts g ++ texts h
texts_append [] h = refl
texts_append (Some x ∷ g) h = ap (λ l. x ∷ l) (texts_append g h)
texts_append (None ∷ g) h = texts_append g h

-- ---- known ones that come in one place

abbrev pub all_known : List (List ℕ) → Gist
all_known [] = []
all_known (x ∷ xs) = Some x ∷ all_known xs

pub record Grows (new : List (List ℕ)) (g h : Gist) : Type 0 where
  pub front : Gist
  pub back : Gist
  pub had : g ≡ front ++ back
  pub has : h ≡ front ++ (all_known new ++ back)

module _ (new : List (List ℕ)) where
  texts_new : (xs : List (List ℕ)) (g : Gist) → texts (all_known xs ++ g) ≡ xs ++ texts g
  texts_new [] g = refl
  texts_new (x ∷ xs) g = ap (λ l. x ∷ l) (texts_new xs g)

  unknown_new : (xs : List (List ℕ)) (g : Gist) → unknown (all_known xs ++ g) ≡ unknown g
  unknown_new [] g = refl
  unknown_new (x ∷ xs) g = unknown_new xs g

  unknown_between : (front back : Gist) → unknown (front ++ (all_known new ++ back)) ≡ unknown (front ++ back)
  unknown_between [] back = unknown_new new back
  unknown_between (Some x ∷ front) back = unknown_between front back
  unknown_between (None ∷ front) back = ap suc (unknown_between front back)

  pub texts_come : (g h : Gist) → Grows new g h → TextsCome new (texts g) (texts h)
  texts_come g h grows = record {
    front = texts grows.front;
    back = texts grows.back;
    had = ap texts grows.had ∙ texts_append grows.front grows.back;
    has = ap texts grows.has ∙ texts_append grows.front (all_known new ++ grows.back) ∙ ap (λ l. texts grows.front ++ l) (texts_new new grows.back);
  }

  pub as_unknown : (g h : Gist) → Grows new g h → unknown h ≡ unknown g
  as_unknown g h grows = ap unknown grows.has ∙ unknown_between grows.front grows.back ∙ sym (ap unknown grows.had)

  -- ---- among others

  pub grows_first : (g h more : Gist) → Grows new g h → Grows new (g ++ more) (h ++ more)
  grows_first g h more grows = record {
    front = grows.front;
    back = grows.back ++ more;
    had = ap (λ l. l ++ more) grows.had ∙ append_assoc grows.front grows.back more;
    has = ap (λ l. l ++ more) grows.has ∙ regroup grows.front (all_known new) grows.back more;
  }
    where
      regroup : (a b c d : Gist) → (a ++ (b ++ c)) ++ d ≡ a ++ (b ++ (c ++ d))
      regroup a b c d = simp append_assoc

  pub grows_behind : (ahead g h : Gist) → Grows new g h → Grows new (ahead ++ g) (ahead ++ h)
  grows_behind ahead g h grows = record {
    front = ahead ++ grows.front;
    back = grows.back;
    had = ap (λ l. ahead ++ l) grows.had ∙ sym (append_assoc ahead grows.front grows.back);
    has = ap (λ l. ahead ++ l) grows.has ∙ sym (append_assoc ahead grows.front (all_known new ++ grows.back));
  }

-- ==== What becomes of an expansion in another tree: it meets the same, or new sources as well; and whether it went where these are.

pub moved : (new : List (List ℕ)) (g h g2 h2 : Gist) → g2 ≡ g → h2 ≡ h → Grows new g h → Grows new g2 h2
moved new g h g2 h2 one other grows = record { front = grows.front; back = grows.back; had = one ∙ grows.had; has = other ∙ grows.has }

-- New sources may come to a list that is bad; `seen` says of the variables that were followed whether the way there is behind them.
module _ (new : List (List ℕ)) (bad : CallRef → Type 0) (seen : List (List ℕ) → Bool) where
  abbrev pub Clear : Mark Nowhere → Type 0
  Clear m = (q : CallRef) → list_of_mark m ≡ Some q → bad q → ⊥

  pub data Either (b : Bool) (ms ns : List (Mark Nowhere)) : Type 0 where
    as_before : gist ns ≡ gist ms → Every Clear ms → Either b ms ns
    grown : b ≡ true → Grows new (gist ms) (gist ns) → Either b ms ns

  pub data How (f g : List (List ℕ)) (ms ns : List (Mark Nowhere)) : Type 0 where
    stays : gist ns ≡ gist ms → Every Clear ms → seen g ≡ seen f → How f g ms ns
    comes : seen f ≡ false → seen g ≡ true → Either true ms ns → How f g ms ns

  pub record Outcome (f : List (List ℕ)) (e now : Expansion Nowhere) : Type 0 where
    pub followed : now.followed ≡ e.followed
    pub how : How f e.followed e.marks now.marks

  -- the way behind the variables
  pub record Along (b : Bool) (e now : Expansion Nowhere) : Type 0 where
    pub followed : now.followed ≡ e.followed
    pub behind : seen e.followed ≡ true
    pub marks : Either b e.marks now.marks

  -- ---- marks that are joined

  both_same : (xs ys us vs : List (Mark Nowhere)) → gist us ≡ gist xs → gist vs ≡ gist ys → gist (us ++ vs) ≡ gist (xs ++ ys)
  both_same xs ys us vs one other = gist_append us vs ∙ ap₂ (λ a b. a ++ b) one other ∙ sym (gist_append xs ys)

  pub either_first : (b : Bool) (xs ys us vs : List (Mark Nowhere)) → Either b xs us → gist vs ≡ gist ys → Every Clear ys → Either b (xs ++ ys) (us ++ vs)
  either_first b xs ys us vs (as_before same clear) other clear2 = as_before (both_same xs ys us vs same other) (every-append Clear xs ys clear clear2)
  either_first b xs ys us vs (grown is grows) other clear2 =
      grown is (moved new (gist xs ++ gist ys) (gist us ++ gist ys) (gist (xs ++ ys)) (gist (us ++ vs)) (gist_append xs ys) (gist_append us vs ∙ ap (λ g. gist us ++ g) other) (grows_first new (gist xs) (gist us) (gist ys) grows))

  pub either_behind : (b : Bool) (xs ys us vs : List (Mark Nowhere)) → gist us ≡ gist xs → Every Clear xs → Either b ys vs → Either b (xs ++ ys) (us ++ vs)
  either_behind b xs ys us vs one clear (as_before same clear2) = as_before (both_same xs ys us vs one same) (every-append Clear xs ys clear clear2)
  either_behind b xs ys us vs one clear (grown is grows) =
      grown is (moved new (gist xs ++ gist ys) (gist xs ++ gist vs) (gist (xs ++ ys)) (gist (us ++ vs)) (gist_append xs ys) (gist_append us vs ∙ ap (λ g. g ++ gist vs) one) (grows_behind new (gist xs) (gist ys) (gist vs) grows))

  how_both : (f g h : List (List ℕ)) (xs ys us vs : List (Mark Nowhere)) → How f g xs us → How g h ys vs → How f h (xs ++ ys) (us ++ vs)
  how_both f g h xs ys us vs (stays one clear s) (stays other clear2 t) = stays (both_same xs ys us vs one other) (every-append Clear xs ys clear clear2) (t ∙ s)
  how_both f g h xs ys us vs (stays one clear s) (comes before after e) = comes (sym s ∙ before) after (either_behind true xs ys us vs one clear e)
  how_both f g h xs ys us vs (comes before after e) (stays other clear2 t) = comes before (t ∙ after) (either_first true xs ys us vs e other clear2)
  how_both f g h xs ys us vs (comes before after e) (comes before2 after2 e2) = let both : true ≡ false = sym after ∙ before2 in absurd cc

  pub joined : (f : List (List ℕ)) (a b c d : Expansion Nowhere) → Outcome f a c → Outcome a.followed b d → Outcome f (both_expanded a b) (both_expanded c d)
  joined f a b c d one other = record { followed = other.followed; how = how_both f a.followed b.followed a.marks b.marks c.marks d.marks one.how other.how }

  pub nothing_both : (f f2 : List (List ℕ)) → f2 ≡ f → Outcome f (record { marks = []; followed = f }) (record { marks = []; followed = f2 })
  nothing_both f f2 same = record { followed = same; how = stays refl tt refl }

  pub opaque_both : (f f2 : List (List ℕ)) → f2 ≡ f → Outcome f (met opaque f) (met opaque f2)
  opaque_both f f2 same = record { followed = same; how = stays refl (λ q is. absurd cc, tt) refl }

  -- ---- behind the variables

  pub record Still (f : List (List ℕ)) (e now : Expansion Nowhere) : Type 0 where
    pub same : gist now.marks ≡ gist e.marks
    pub clear : Every Clear e.marks
    pub behind : seen e.followed ≡ true

  pub still : (f : List (List ℕ)) (e now : Expansion Nowhere) → seen f ≡ true → Outcome f e now → Still f e now
  still f e now is o = go o.how
    where
      go : How f e.followed e.marks now.marks → Still f e now
      go (stays same clear s) = record { same = same; clear = clear; behind = s ∙ is }
      go (comes before after x) = let both : true ≡ false = sym is ∙ before in absurd cc

  pub along_same : (b : Bool) (f : List (List ℕ)) (e now : Expansion Nowhere) → seen f ≡ true → Outcome f e now → Along b e now
  along_same b f e now is o = let s = still f e now is o in record { followed = o.followed; behind = s.behind; marks = as_before s.same s.clear }

  pub along_first : (b : Bool) (x y u v : Expansion Nowhere) → Along b x u → Outcome x.followed y v → Along b (both_expanded x y) (both_expanded u v)
  along_first b x y u v a o =
      let s = still x.followed y v a.behind o in
      record { followed = o.followed; behind = s.behind; marks = either_first b x.marks y.marks u.marks v.marks a.marks s.same s.clear }

  pub along_behind : (b : Bool) (f : List (List ℕ)) (x y u v : Expansion Nowhere) → seen f ≡ true → Outcome f x u → Along b y v → Along b (both_expanded x y) (both_expanded u v)
  along_behind b f x y u v is o a =
      let s = still f x u is o in
      record { followed = a.followed; behind = a.behind; marks = either_behind b x.marks y.marks u.marks v.marks s.same s.clear a.marks }

  -- ---- within brackets

  or_clear : (p : CallRef) (ms : List (Mark Nowhere)) → (bad p → ⊥) → Every Clear ms → Every Clear (or_empty p ms)
  or_clear p [] fine all = (λ q is b. fine (here p q is b), tt)
    where
      here : (p q : CallRef) → Some p ≡ Some q → bad q → bad p
      here p q is b = let same : p ≡ q = cc in rw same b
  or_clear p (m ∷ ms) fine all = all

  pub either_within : (b : Bool) (p p2 : CallRef) (ms ns : List (Mark Nowhere)) → (bad p → ⊥) → Either b ms ns → Either b (or_empty p ms) (or_empty p2 ns)
  either_within b p p2 ms ns fine (as_before same clear) = as_before (gist_within p2 ns ∙ same ∙ sym (gist_within p ms)) (or_clear p ms fine clear)
  either_within b p p2 ms ns fine (grown is grows) = grown is (moved new (gist ms) (gist ns) (gist (or_empty p ms)) (gist (or_empty p2 ns)) (gist_within p ms) (gist_within p2 ns) grows)

  pub outcome_within : (f : List (List ℕ)) (p p2 : CallRef) (e now : Expansion Nowhere) → (bad p → ⊥) → Outcome f e now → Outcome f (within p e) (within p2 now)
  outcome_within f p p2 e now fine o = record { followed = o.followed; how = go o.how }
    where
      go : How f e.followed e.marks now.marks → How f e.followed (or_empty p e.marks) (or_empty p2 now.marks)
      go (stays same clear s) = stays (gist_within p2 now.marks ∙ same ∙ sym (gist_within p e.marks)) (or_clear p e.marks fine clear) s
      go (comes before after x) = comes before after (either_within true p p2 e.marks now.marks fine x)

  pub along_within : (b : Bool) (p p2 : CallRef) (e now : Expansion Nowhere) → (bad p → ⊥) → Along b e now → Along b (within p e) (within p2 now)
  along_within b p p2 e now fine a = record { followed = a.followed; behind = a.behind; marks = either_within b p p2 e.marks now.marks fine a.marks }
