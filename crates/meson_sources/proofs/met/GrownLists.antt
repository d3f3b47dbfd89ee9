-- What is met in a list that gets strings.
use Rattle.meson_syntax.specs.declared.operator.StringKind.TheVariants as quotes
use Rattle.meson_lex.proofs.Written.{literal_value}
use Rattle.meson_sources.proofs.Words.{cons_option, filter_map, All, bytes_eq, codes, if◌then◌else◌, not, option_map, ◌&&◌, [], ap, append-nil, ap₂, arith}
use Rattle.meson_sources.proofs.Words.{Bool, false, IsUtf8, length, List, None, Option, refl, Some, subst, suc, sym, true, zero, ℕ, ◌++◌, ◌+◌, ◌<◌, ◌∙◌, ◌∷◌}
use Rattle.meson_sources.proofs.Words.{◌≡◌, ◌≤◌, All-head, All-tail, filter_map-append, literal, value, Any, string_kind, value_of, Argument, arguments_of}
use Rattle.meson_sources.proofs.Words.{array, call, Expression, listing, Name, named, Nowhere, pair, plain, string, Every, with_value, kept_number, literal_of}
use Rattle.meson_sources.proofs.Words.{Numbered, numbered, value_with_name, rest, child, one_of, CallRef, both_expanded, element, expand_by, expand_each}
use Rattle.meson_sources.proofs.Words.{Expansion, fixed, has_names, in_list, is_files, known, literal_item, Mark, max_followed, met, nothing_met, opaque, Stand}
use Rattle.meson_sources.proofs.Words.{within, list_of_slot, string_of, array_holding, extra_argument, strings, extra_key, is_plain}
use Rattle.meson_sources.proofs.met.Arguments.{Expand, list_with, plains, keys, keys_same, keyed}
use Rattle.meson_sources.proofs.met.Expressions.{argument_same, each_same}
use Rattle.meson_sources.proofs.met.Marks.{Values, expand_with}
use Rattle.meson_sources.proofs.met.Outcomes.{gist, gist_append, gist_within, all_known, Grows, grows_first, grows_behind, moved, Clear, Either, as_before}
use Rattle.meson_sources.proofs.met.Outcomes.{grown, How, stays, comes, Outcome, Along, still, Gist}

-- ==== A list that gets strings behind some of its elements: what is met in it, and these.

pub every_of : {X : Type 0} (P : X → Type 0) (xs : List X) → All P xs → Every P xs
every_of P [] all = tt
every_of P (x ∷ xs) all = (All-head P x xs all, every_of P xs (All-tail P x xs all))

-- no list is bad
abbrev pub Nothing : CallRef → Type 0
Nothing q = ⊥

abbrev pub Anywhere : CallRef → Type 0
Anywhere p = Unit {0}

module _ (new : List (List ℕ)) (bad : CallRef → Type 0) (seen : List (List ℕ) → Bool) where
  all_clear : (ms : List (Mark Nowhere)) → Every (Clear new Nothing seen) ms
  all_clear [] = tt
  all_clear (m ∷ ms) = (λ q is z. z, all_clear ms)

  pub forget : (f : List (List ℕ)) (e now : Expansion Nowhere) → Outcome new bad seen f e now → Outcome new Nothing seen f e now
  forget f e now o = record { followed = o.followed; how = go o.how }
    where
      either : Either new bad seen true e.marks now.marks → Either new Nothing seen true e.marks now.marks
      either (as_before same clear) = as_before same (all_clear e.marks)
      either (grown is grows) = grown is grows

      go : How new bad seen f e.followed e.marks now.marks → How new Nothing seen f e.followed e.marks now.marks
      go (stays same clear s) = stays same (all_clear e.marks) s
      go (comes before after x) = comes before after (either x)

-- the new ones are met as well
pub record Brings (new : List (List ℕ)) (seen : List (List ℕ) → Bool) (e now : Expansion Nowhere) : Type 0 where
  pub followed : now.followed ≡ e.followed
  pub behind : seen e.followed ≡ true
  pub grows : Grows new (gist e.marks) (gist now.marks)

-- these are met before all else
record Before (names : List (List ℕ)) (seen : List (List ℕ) → Bool) (e now : Expansion Nowhere) : Type 0 where
  followed : now.followed ≡ e.followed
  behind : seen e.followed ≡ true
  has : gist now.marks ≡ all_known names ++ gist e.marks

module _ (new : List (List ℕ)) (seen : List (List ℕ) → Bool) where
  brings_behind : (f : List (List ℕ)) (x y u v : Expansion Nowhere) → seen f ≡ true → Outcome new Nothing seen f x u → Brings new seen y v → Brings new seen (both_expanded x y) (both_expanded u v)
  brings_behind f x y u v is o b =
      let s = still new Nothing seen f x u is o in
      record {
        followed = b.followed;
        behind = b.behind;
        grows = moved new (gist x.marks ++ gist y.marks) (gist x.marks ++ gist v.marks) _ _ (gist_append x.marks y.marks) (gist_append u.marks v.marks ∙ ap (λ g. g ++ gist v.marks) s.same) (grows_behind new (gist x.marks) (gist y.marks) (gist v.marks) b.grows);
      }

  pub brings_first : (x y u v : Expansion Nowhere) → Brings new seen x u → Outcome new Nothing seen x.followed y v → Brings new seen (both_expanded x y) (both_expanded u v)
  brings_first x y u v b o =
      let s = still new Nothing seen x.followed y v b.behind o in
      record {
        followed = o.followed;
        behind = s.behind;
        grows = moved new (gist x.marks ++ gist y.marks) (gist u.marks ++ gist y.marks) _ _ (gist_append x.marks y.marks) (gist_append u.marks v.marks ∙ ap (λ g. gist u.marks ++ g) s.same) (grows_first new (gist x.marks) (gist u.marks) (gist y.marks) b.grows);
      }

  now_brings : (e now : Expansion Nowhere) → Before new seen e now → Brings new seen e now
  now_brings e now b = record { followed = b.followed; behind = b.behind; grows = record { front = []; back = gist e.marks; had = refl; has = b.has } }

  -- one more of them
  one_more : (name : List ℕ) (names : List (List ℕ)) (e x now : Expansion Nowhere) → gist x.marks ≡ Some name ∷ [] → Before names seen e now → Before (name ∷ names) seen e (both_expanded x now)
  one_more name names e x now is b = record { followed = b.followed; behind = b.behind; has = gist_append x.marks now.marks ∙ ap₂ (λ g h. g ++ h) is b.has }

-- a string that is written for a name
pub name_met : (name : List ℕ) → IsUtf8 name → (s : Stand) (g : List (List ℕ)) (P : Expansion Nowhere → Type 0)
    → P (met (known (record { text = name; stands = tt; place = s.place; slot = s.slot; variable = s.variable })) g) → P (literal_item tt s g (value (string_kind quotes.Plain) (literal name)))
name_met name utf8 s g P p = subst (λ o. P (literal_item tt s g o)) (sym (literal_value name utf8)) p

-- ---- lists

module _ (new : List (List ℕ)) (bad : CallRef → Type 0) (seen : List (List ℕ) → Bool) (lists lists2 : Expression Nowhere → Bool) (alike : (e : Expression Nowhere) → lists2 e ≡ lists e) (follow follow2 : List ℕ → List (List ℕ) → Expansion Nowhere)
    (follows : (x : List ℕ) (f : List (List ℕ)) → one_of f x ≡ false → Outcome new bad seen f (follow x f) (follow2 x f)) (back : List (Argument Nowhere)) where
  still_follows : (x : List ℕ) (f : List (List ℕ)) → one_of f x ≡ false → Outcome new Nothing seen f (follow x f) (follow2 x f)
  still_follows x f not_yet = forget new bad seen f (follow x f) (follow2 x f) (follows x f not_yet)

  strings_each : (names : List (List ℕ)) → Every IsUtf8 names → (n m : ℕ) (s u : Stand) (f g : List (List ℕ)) → g ≡ f → seen f ≡ true
      → Before names seen (expand_each lists follow (arguments_of back) n s f) (expand_each lists2 follow2 (arguments_of (strings names ++ back)) m u g)
  strings_each [] utf8 n m s u f g equal behind =
      let o = each_same new Nothing seen Anywhere (λ p k a. tt) (λ p a z. z) lists lists2 alike follow follow2 still_follows (arguments_of back) n m s u f g equal (λ z. z) (λ k le. tt) in
      let x = still new Nothing seen f _ _ behind o in
      record { followed = o.followed; behind = x.behind; has = x.same }
  strings_each (name ∷ names) utf8 n m s u f g equal behind =
      name_met name utf8.0 (element u m) g
      (λ x. Before (name ∷ names) seen (expand_each lists follow (arguments_of back) n s f) (both_expanded x (expand_each lists2 follow2 (arguments_of (strings names ++ back)) (m + 1) u x.followed)))
      (one_more new seen name names _ (met (known (record { text = name; stands = tt; place = child u.place m; slot = in_list u.place m; variable = u.variable })) g) _ refl (strings_each names utf8.1 n (m + 1) s u f g equal behind))

  each_brings : Every IsUtf8 new → (front : List (Argument Nowhere)) (n m : ℕ) (s u : Stand) (f g : List (List ℕ)) → g ≡ f → seen f ≡ true
      → Brings new seen (expand_each lists follow (arguments_of (front ++ back)) n s f) (expand_each lists2 follow2 (arguments_of (front ++ (strings new ++ back))) m u g)
  each_brings utf8 [] n m s u f g equal behind = now_brings new seen _ _ (strings_each new utf8 n m s u f g equal behind)
  each_brings utf8 (a ∷ front) n m s u f g equal behind =
      let o = argument_same new Nothing seen Anywhere (λ p k x. tt) (λ p x z. z) lists lists2 alike follow follow2 still_follows a (element s n) (element u m) f g equal tt (λ q is z. z) in
      brings_behind new seen f _ _ _ _ behind o (each_brings utf8 front (n + 1) (m + 1) s u _ _ o.followed (still new Nothing seen f _ _ behind o).behind)

  brackets_brings : (p p2 : CallRef) (e now : Expansion Nowhere) → Brings new seen e now → Along new bad seen true (within p e) (within p2 now)
  brackets_brings p p2 e now b = record { followed = b.followed; behind = b.behind; marks = grown refl (moved new (gist e.marks) (gist now.marks) _ _ (gist_within p e.marks) (gist_within p2 now.marks) b.grows) }

  pub array_brings : Every IsUtf8 new → (front : List (Argument Nowhere)) (r r2 : Nowhere) (trailing trailing2 : Bool) (s u : Stand) (f g : List (List ℕ)) → g ≡ f → seen f ≡ true
      → Along new bad seen true (expand_by lists follow (array (listing r trailing (arguments_of (front ++ back)))) s f) (expand_by lists2 follow2 (array (listing r2 trailing2 (arguments_of (front ++ (strings new ++ back))))) u g)
  array_brings utf8 front r r2 trailing trailing2 s u f g equal behind = brackets_brings s.place u.place _ _ (each_brings utf8 front 0 0 s u f g equal behind)

  files_brings : (z z2 : Bool) → z ≡ true → z2 ≡ true → (p p2 : CallRef) (e now : Expansion Nowhere) (f g : List (List ℕ)) → Brings new seen e now → Along new bad seen true (if z then within p e else met opaque f) (if z2 then within p2 now else met opaque g)
  files_brings true true is is2 p p2 e now f g b = brackets_brings p p2 e now b
  files_brings true false is is2 p p2 e now f g b = absurd cc
  files_brings false z2 is is2 p p2 e now f g b = absurd cc

  pub call_brings : Every IsUtf8 new → (front : List (Argument Nowhere)) (q : Nowhere) (x : Name Nowhere) (r r2 : Nowhere) (trailing trailing2 : Bool) → is_files x.text (listing r trailing (arguments_of (front ++ back))) ≡ true
      → is_files x.text (listing r2 trailing2 (arguments_of (front ++ (strings new ++ back)))) ≡ true → (s u : Stand) (f g : List (List ℕ)) → g ≡ f → seen f ≡ true
      → Along new bad seen true (expand_by lists follow (call q x (listing r trailing (arguments_of (front ++ back)))) s f) (expand_by lists2 follow2 (call q x (listing r2 trailing2 (arguments_of (front ++ (strings new ++ back))))) u g)
  call_brings utf8 front q x r r2 trailing trailing2 is is2 s u f g equal behind = files_brings _ _ is is2 s.place u.place _ _ f g (each_brings utf8 front 0 0 s u f g equal behind)

-- ---- a call of `files` stays one

names_stay : (names : List (List ℕ)) (front back : List (Argument Nowhere)) → has_names (arguments_of (front ++ (strings names ++ back))) ≡ has_names (arguments_of (front ++ back))
names_stay [] [] back = refl
names_stay (name ∷ names) [] back = names_stay names [] back
names_stay names (plain e ∷ front) back = names_stay names front back
names_stay names (named s x e ∷ front) back = refl
names_stay names (pair s e f ∷ front) back = names_stay names front back

pub files_stay : (names : List (List ℕ)) (f : List ℕ) (front back : List (Argument Nowhere)) (r r2 : Nowhere) (trailing trailing2 : Bool)
    → is_files f (listing r2 trailing2 (arguments_of (front ++ (strings names ++ back)))) ≡ is_files f (listing r trailing (arguments_of (front ++ back)))
files_stay names f front back r r2 trailing trailing2 = ap (λ z. bytes_eq f (codes "files") && not z) (names_stay names front back)

-- ---- the arguments of a call that gets strings behind those without a name

module _ (new : List (List ℕ)) (seen : List (List ℕ) → Bool) (older newer : Any Nowhere) (t : CallRef) (one two : Expand)
    (same : (e : Expression Nowhere) (s u : Stand) (f g : List (List ℕ)) → g ≡ f → Unit {0} → ((q : CallRef) → list_of_slot s.slot ≡ Some q → ⊥ → ⊥) → Outcome new Nothing seen f (one e s f) (two e u g))
    (named_met : (name : List ℕ) → IsUtf8 name → (s : Stand) (g : List (List ℕ)) (P : Expansion Nowhere → Type 0)
    → P (met (known (record { text = name; stands = tt; place = s.place; slot = s.slot; variable = s.variable })) g) → P (two (string_of name) s g))
    (c : CallRef) (back : List (Argument Nowhere)) (none : Every (λ a. is_plain a ≡ false) back) where
  no_plains : (k : ℕ) (list : List (Argument Nowhere)) → Every (λ a. is_plain a ≡ false) list → plains k (arguments_of list) ≡ []
  no_plains k [] all = refl
  no_plains k (plain e ∷ list) all = let no = all.0 in absurd cc
  no_plains k (named s x e ∷ list) all = no_plains (k + 1) list all.1
  no_plains k (pair s e f ∷ list) all = no_plains (k + 1) list all.1

  strings_listed : (names : List (List ℕ)) → Every IsUtf8 names → (n m : ℕ) (f g : List (List ℕ)) → g ≡ f → seen f ≡ true
      → Before names seen (nothing_met f) (list_with two c (in_list c) (plains m (arguments_of (strings names ++ back))) g)
  strings_listed [] utf8 n m f g equal behind =
      subst (λ l. Before [] seen (nothing_met f) (list_with two c (in_list c) l g)) (sym (no_plains m back none)) (record { followed = equal; behind = behind; has = refl })
  strings_listed (name ∷ names) utf8 n m f g equal behind =
      named_met name utf8.0 (record { place = child c m; slot = in_list c m; variable = None }) g
      (λ x. Before (name ∷ names) seen (nothing_met f) (both_expanded x (list_with two c (in_list c) (plains (m + 1) (arguments_of (strings names ++ back))) x.followed)))
      (one_more new seen name names (nothing_met f) (met (known (record { text = name; stands = tt; place = child c m; slot = in_list c m; variable = None })) g) _ refl (strings_listed names utf8.1 n (m + 1) f g equal behind))

  plains_bring : Every IsUtf8 new → (front : List (Argument Nowhere)) → Every (λ a. is_plain a ≡ true) front → (n m : ℕ) (f g : List (List ℕ)) → g ≡ f → seen f ≡ true
      → Brings new seen (list_with one c (in_list c) (plains n (arguments_of (front ++ back))) f) (list_with two c (in_list c) (plains m (arguments_of (front ++ (strings new ++ back)))) g)
  plains_bring utf8 [] all n m f g equal behind =
      subst (λ l. Brings new seen (list_with one c (in_list c) l f) (list_with two c (in_list c) (plains m (arguments_of (strings new ++ back))) g)) (sym (no_plains n back none))
      (now_brings new seen _ _ (strings_listed new utf8 n m f g equal behind))
  plains_bring utf8 (plain e ∷ front) all n m f g equal behind =
      let o = same e (record { place = child c n; slot = in_list c n; variable = None }) (record { place = child c m; slot = in_list c m; variable = None }) f g equal tt (λ q is z. z) in
      brings_behind new seen f _ _ _ _ behind o (plains_bring utf8 front all.1 (n + 1) (m + 1) _ _ o.followed (still new Nothing seen f _ _ behind o).behind)
  plains_bring utf8 (named s x e ∷ front) all n m f g equal behind = let yea = all.0 in absurd cc
  plains_bring utf8 (pair s e d ∷ front) all n m f g equal behind = let yea = all.0 in absurd cc

  keys_strings : (names : List (List ℕ)) (n m : ℕ) (f g : List (List ℕ)) → g ≡ f → Outcome new Nothing seen f (list_with one c (λ k. fixed) (keys n (arguments_of back)) f) (list_with two c (λ k. fixed) (keys m (arguments_of (strings names ++ back))) g)
  keys_strings [] n m f g equal = keys_same new Nothing seen Anywhere older newer t true one two same c (arguments_of back) n m (λ k le. tt) f g equal
  keys_strings (name ∷ names) n m f g equal = keys_strings names n (m + 1) f g equal

  keys_bring : (front : List (Argument Nowhere)) → Every (λ a. is_plain a ≡ true) front → (n m : ℕ) (f g : List (List ℕ)) → g ≡ f
      → Outcome new Nothing seen f (list_with one c (λ k. fixed) (keys n (arguments_of (front ++ back))) f) (list_with two c (λ k. fixed) (keys m (arguments_of (front ++ (strings new ++ back)))) g)
  keys_bring [] all n m f g equal = keys_strings new n m f g equal
  keys_bring (plain e ∷ front) all n m f g equal = keys_bring front all.1 (n + 1) (m + 1) f g equal
  keys_bring (named s x e ∷ front) all n m f g equal = let yea = all.0 in absurd cc
  keys_bring (pair s e d ∷ front) all n m f g equal = let yea = all.0 in absurd cc

  -- the first argument without a name is none of the sources
  pub arguments_bring : Every IsUtf8 new → (front : List (Argument Nowhere)) → Every (λ a. is_plain a ≡ true) front → (front ≡ [] → ⊥) → (f g : List (List ℕ)) → g ≡ f → seen f ≡ true
      → let first = list_with one c (in_list c) (rest (plains 0 (arguments_of (front ++ back)))) f in
      let second = list_with two c (in_list c) (rest (plains 0 (arguments_of (front ++ (strings new ++ back))))) g in
      Brings new seen (both_expanded first (list_with one c (λ k. fixed) (keys 0 (arguments_of (front ++ back))) first.followed))
      (both_expanded second (list_with two c (λ k. fixed) (keys 0 (arguments_of (front ++ (strings new ++ back)))) second.followed))
  arguments_bring utf8 [] all some f g equal behind = absurd (some refl)
  arguments_bring utf8 (plain e ∷ front) all some f g equal behind =
      let b = plains_bring utf8 front all.1 1 1 f g equal behind in
      brings_first new seen _ _ _ _ b (keys_bring front all.1 1 1 _ _ b.followed)
  arguments_bring utf8 (named s x e ∷ front) all some f g equal behind = let yea = all.0 in absurd cc
  arguments_bring utf8 (pair s e d ∷ front) all some f g equal behind = let yea = all.0 in absurd cc

-- ==== What is met in the array that an argument `extra_files:` gets.

-- ---- strings

module _ (lists : Expression Nowhere → Bool) (follow : List ℕ → List (List ℕ) → Expansion Nowhere) where
  strings_met : (names : List (List ℕ)) → Every IsUtf8 names → (n : ℕ) (s : Stand) (f : List (List ℕ)) → gist (expand_each lists follow (arguments_of (strings names)) n s f).marks ≡ all_known names
  strings_met [] utf8 n s f = refl
  strings_met (name ∷ names) utf8 n s f =
      name_met name utf8.0 (element s n) f (λ (x : Expansion Nowhere). gist (both_expanded x (expand_each lists follow (arguments_of (strings names)) (n + 1) s x.followed)).marks ≡ Some name ∷ all_known names)
      (ap (λ g. Some name ∷ g) (strings_met names utf8.1 (n + 1) s f))

  literal_met : (e : Expression Nowhere) (text : List ℕ) → literal_of e ≡ Some text → (s : Stand) (f : List (List ℕ)) (P : Expansion Nowhere → Type 0)
      → P (met (known (record { text = text; stands = tt; place = s.place; slot = s.slot; variable = s.variable })) f) → P (expand_by lists follow e s f)
  literal_met (string t q w) text is s f P p = subst (λ o. P (literal_item {S = Nowhere} tt s f o)) (sym is) p
  literal_met _ text is s f P p = absurd cc

  array_met : (names : List (List ℕ)) → Every IsUtf8 names → (s : Stand) (f : List (List ℕ)) → gist (expand_by lists follow (array_holding (strings names)) s f).marks ≡ all_known names
  array_met names utf8 s f = gist_within s.place (expand_each lists follow (arguments_of (strings names)) 0 s f).marks ∙ strings_met names utf8 0 s f

  wrapped_met : (e : Expression Nowhere) (text : List ℕ) → literal_of e ≡ Some text → (names : List (List ℕ)) → Every IsUtf8 names → (s : Stand) (f : List (List ℕ))
      → gist (expand_by lists follow (array_holding (plain e ∷ strings names)) s f).marks ≡ Some text ∷ all_known names
  wrapped_met e text is names utf8 s f =
      gist_within s.place (expand_each lists follow (arguments_of (plain e ∷ strings names)) 0 s f).marks
      ∙ literal_met e text is (element s 0) f (λ (x : Expansion Nowhere). gist (both_expanded x (expand_each lists follow (arguments_of (strings names)) 1 s x.followed)).marks ≡ Some text ∷ all_known names)
      (ap (λ g. Some text ∷ g) (strings_met names utf8 1 s f))

module _ (values : Values) where
  abbrev one : Expression Nowhere → Stand → List (List ℕ) → Expansion Nowhere
  one = expand_with values max_followed

  abbrev pub lone : CallRef → ℕ → Expression Nowhere → Gist
  lone c n e = gist (list_with one c (λ n. fixed) (record { number = n; value = e } ∷ []) []).marks

  lone_is : (c : CallRef) (n : ℕ) (e : Expression Nowhere) (g : Gist) → ((s : Stand) (f : List (List ℕ)) → gist (one e s f).marks ≡ g) → lone c n e ≡ g
  lone_is c n e g each =
      let first = one e (record { place = child c n; slot = fixed; variable = None }) [] in
      gist_append first.marks [] ∙ append-nil (gist first.marks) ∙ each (record { place = child c n; slot = fixed; variable = None }) []

  pub lone_array : (c : CallRef) (n : ℕ) (names : List (List ℕ)) → Every IsUtf8 names → lone c n (array_holding (strings names)) ≡ all_known names
  lone_array c n names utf8 = lone_is c n (array_holding (strings names)) (all_known names) (go max_followed)
    where
      go : (left : ℕ) (s : Stand) (f : List (List ℕ)) → gist (expand_with values left (array_holding (strings names)) s f).marks ≡ all_known names
      go zero s f = array_met _ _ names utf8 s f
      go (suc left) s f = array_met _ _ names utf8 s f

  pub lone_literal : (c : CallRef) (n : ℕ) (e : Expression Nowhere) (text : List ℕ) → literal_of e ≡ Some text → lone c n e ≡ Some text ∷ []
  lone_literal c n e text is = lone_is c n e (Some text ∷ []) (go max_followed)
    where
      go : (left : ℕ) (s : Stand) (f : List (List ℕ)) → gist (expand_with values left e s f).marks ≡ Some text ∷ []
      go zero s f = literal_met _ _ e text is s f (λ (x : Expansion Nowhere). gist x.marks ≡ Some text ∷ []) refl
      go (suc left) s f = literal_met _ _ e text is s f (λ (x : Expansion Nowhere). gist x.marks ≡ Some text ∷ []) refl

  pub lone_wrapped : (c : CallRef) (n : ℕ) (e : Expression Nowhere) (text : List ℕ) → literal_of e ≡ Some text → (names : List (List ℕ)) → Every IsUtf8 names → lone c n (array_holding (plain e ∷ strings names)) ≡ Some text ∷ all_known names
  lone_wrapped c n e text is names utf8 = lone_is c n (array_holding (plain e ∷ strings names)) (Some text ∷ all_known names) (go max_followed)
    where
      go : (left : ℕ) (s : Stand) (f : List (List ℕ)) → gist (expand_with values left (array_holding (plain e ∷ strings names)) s f).marks ≡ Some text ∷ all_known names
      go zero s f = wrapped_met _ _ e text is names utf8 s f
      go (suc left) s f = wrapped_met _ _ e text is names utf8 s f

-- ---- arguments of a key

numbered_append : (xs ys : List (Argument Nowhere)) (k : ℕ) → numbered k (arguments_of (xs ++ ys)) ≡ numbered k (arguments_of xs) ++ numbered (k + length xs) (arguments_of ys)
numbered_append [] ys k = let same : k ≡ k + 0 = omega arith in ap (λ i. numbered i (arguments_of ys)) same
numbered_append (x ∷ xs) ys k =
    let same : (k + 1) + length xs ≡ k + suc (length xs) = omega arith in
    ap (λ l. record { number = k; value = x } ∷ l) (numbered_append xs ys (k + 1) ∙ ap (λ i. numbered (k + 1) (arguments_of xs) ++ numbered i (arguments_of ys)) same)

pub keyed_append : (key : List ℕ) (xs ys : List (Argument Nowhere)) (k : ℕ) → keyed key k (arguments_of (xs ++ ys)) ≡ keyed key k (arguments_of xs) ++ keyed key (k + length xs) (arguments_of ys)
keyed_append key xs ys k =
    ap (filter_map (kept_number (value_with_name key))) (numbered_append xs ys k) ∙ filter_map-append (kept_number (value_with_name key)) (numbered k (arguments_of xs)) (numbered (k + length xs) (arguments_of ys))

-- a further argument behind others without the key
pub new_keyed : (us : List (Argument Nowhere)) (k : ℕ) (names : List (List ℕ)) → keyed extra_key k (arguments_of us) ≡ []
    → (n : ℕ) × (keyed extra_key k (arguments_of (us ++ extra_argument names ∷ [])) ≡ record { number = n; value = array_holding (strings names) } ∷ [])
new_keyed us k names none = (k + length us, keyed_append extra_key us (extra_argument names ∷ []) k ∙ ap (λ l. l ++ record { number = k + length us; value = array_holding (strings names) } ∷ []) none)

pub same_value : (v w : Numbered (Expression Nowhere)) (us vs : List (Numbered (Expression Nowhere))) → v ∷ us ≡ w ∷ vs → v.value ≡ w.value
same_value v w us vs is = let same : v ≡ w = cc in ap (λ (z : Numbered (Expression Nowhere)). z.value) same

-- those of a key have the numbers of their arguments
abbrev Within : ℕ → ℕ → List (Numbered (Expression Nowhere)) → Type 0
Within m n vs = Every (λ (v : Numbered (Expression Nowhere)). (m ≤ v.number) × (v.number < n)) vs

abbrev at_number : ℕ → Option (Expression Nowhere) → Option (Numbered (Expression Nowhere))
at_number k o = option_map (λ y. record { number = k; value = y }) o

keyed_within : (xs : List (Argument Nowhere)) (k m n : ℕ) → m ≤ k → k + length xs ≤ n → Within m n (keyed extra_key k (arguments_of xs))
keyed_within [] k m n low high = tt
keyed_within (x ∷ xs) k m n low high = go (value_with_name extra_key x) (keyed_within xs (k + 1) m n (omega (arith, low)) (omega (arith, high)))
  where
    go : (o : Option (Expression Nowhere)) → Within m n (keyed extra_key (k + 1) (arguments_of xs)) → Within m n (cons_option (at_number k o) (keyed extra_key (k + 1) (arguments_of xs)))
    go None all = all
    go (Some e) all = ((low, omega (arith, high)), all)

-- one alone, which has the number n
lone_middle : (before behind : List (Numbered (Expression Nowhere))) (o : Option (Expression Nowhere)) (m n k : ℕ) (w : Expression Nowhere) → Within m n before → Within (n + 1) k behind
    → before ++ cons_option (at_number n o) behind ≡ record { number = n; value = w } ∷ [] → (before ≡ []) × (o ≡ Some w) × (behind ≡ [])
lone_middle [] [] None m n k w low high is = absurd cc
lone_middle [] (v ∷ behind) None m n k w low high is =
    let same : v ≡ record { number = n; value = w } = cc in
    let number = ap (λ (z : Numbered (Expression Nowhere)). z.number) same in
    let above = high.0.0 in
    absurd (omega (arith, number, above))
lone_middle [] behind (Some e) m n k w low high is = let none : behind ≡ [] = cc in (refl, ap Some (same_value _ _ _ _ is), none)
lone_middle (v ∷ before) behind o m n k w low high is =
    let same : v ≡ record { number = n; value = w } = cc in
    let number = ap (λ (z : Numbered (Expression Nowhere)). z.number) same in
    let below = low.0.1 in
    absurd (omega (arith, number, below))

module _ (front : List (Argument Nowhere)) (it : Argument Nowhere) (back : List (Argument Nowhere)) (k n : ℕ) (w : Expression Nowhere) (number : n ≡ k + length front)
    (is : keyed extra_key k (arguments_of (front ++ it ∷ back)) ≡ record { number = n; value = w } ∷ []) where
  parted : (a : Argument Nowhere) → keyed extra_key k (arguments_of (front ++ a ∷ back))
      ≡ keyed extra_key k (arguments_of front) ++ cons_option (at_number n (value_with_name extra_key a)) (keyed extra_key (n + 1) (arguments_of back))
  parted a = keyed_append extra_key front (a ∷ back) k ∙ ap (λ i. keyed extra_key k (arguments_of front) ++ keyed extra_key i (arguments_of (a ∷ back))) (sym number)

  alone : (keyed extra_key k (arguments_of front) ≡ []) × (value_with_name extra_key it ≡ Some w) × (keyed extra_key (n + 1) (arguments_of back) ≡ [])
  alone =
      lone_middle _ _ (value_with_name extra_key it) k n ((n + 1) + length back) w (keyed_within front k k n (omega arith) (omega (arith, number))) (keyed_within back (n + 1) (n + 1) ((n + 1) + length back) (omega arith) (omega arith))
      (sym (parted it) ∙ is)

  has_value : (a : Argument Nowhere) → value_with_name extra_key a ≡ Some w → (value_of a ≡ Some w) × ((w2 : Expression Nowhere) → value_with_name extra_key (with_value w2 a) ≡ Some w2)
  has_value (plain e) here = absurd cc
  has_value (named s x e) here = go (bytes_eq x.text extra_key) here
    where
      go : (b : Bool) → (if b then Some e else None) ≡ Some w → (Some e ≡ Some w) × ((w2 : Expression Nowhere) → (if b then Some w2 else None) ≡ Some w2)
      go true same = (same, λ w2. refl)
      go false same = absurd cc
  has_value (pair s e f) here = absurd cc

  pub keyed_value : value_of it ≡ Some w
  keyed_value = (has_value it alone.1).0

  -- another value in the one argument of the key
  pub other_keyed : (w2 : Expression Nowhere) → keyed extra_key k (arguments_of (front ++ with_value w2 it ∷ back)) ≡ record { number = n; value = w2 } ∷ []
  other_keyed w2 =
      parted (with_value w2 it) ∙ ap₂ (λ l o. l ++ cons_option (at_number n o) (keyed extra_key (n + 1) (arguments_of back))) alone.0 ((has_value it alone.1).1 w2)
      ∙ ap (λ l. record { number = n; value = w2 } ∷ l) alone.2
