-- A `subdir` enters what it entered, where literals are left out of lists that name no folders.
use Rattle.std.proofs.Common.{◌≡◌, ◌≢◌, ℕ, zero, suc, ◌+◌, List, [], ◌∷◌, length, Option, Some, None, refl, sym, ap, ap₂, subst, ◌∙◌}
use Rattle.std.specs.Prelude.{Bool, true, false, not, if◌then◌else◌, bytes_eq, codes, cond, nat_lt, option_map, option_and_then}
use Rattle.std.specs.Char.{encode_utf8}
use Rattle.std.specs.List.{cons_option, filter_map, position_or_len}
use Rattle.std.specs.Str.{chars, is_utf8}
use Rattle.std.proofs.lemmas.List.{length-map}
use Rattle.std.proofs.lemmas.Slice.Eq.{bytes_eq-Decides}
use Rattle.std.proofs.Math.Path.{fun_ext}
use Rattle.meson_syntax.specs.Tree.{Expression, identifier, boolean, integer, string, paren, array, dictionary, call, unary, row, postfix, conditional, Listing, listing, plain, named, pair, Arguments, no_arguments, argument}
use Rattle.meson_calls.specs.declared.call.CallRef.{CallRef}
use Rattle.meson_calls.specs.declared.call.Reading.TheVariants.{Followed}
use Rattle.meson_calls.specs.Calls.{Call, Numbered, first_argument, kept_number, numbered, value_with_name}
use Rattle.meson_calls.specs.Entering.{folder_file, meant_as}
use Rattle.meson_calls.specs.Project.{BuildFile, Project, nth_file, placed}
use Rattle.meson_following.specs.declared.effects.Effect.TheVariants.{Enters, MayEnter}
use Rattle.meson_following.specs.Effects.{entering, entering_by, entering_each, entering_literal, has_condition, is_name, number_of}
use Rattle.meson_meaning.specs.Expressions.{call_with, literal_in, of_another, sort_of}
use Rattle.meson_meaning.specs.Laws.{MeansTheSame, is_named}
use Rattle.meson_meaning.specs.Running.{Entry, entered_by, entry_of}
use Rattle.meson_meaning.specs.Without.{Loses, arguments_without, call_without, each_one, expression_without, file_without, kept_before, later_ones, listing_without, literal_goes, loses, loses_after, may_go, nothing, project_without}
use Rattle.meson_meaning.proofs.CallParts.{first_literal_kept, first_stays, is_name_stays}

module _ {S T : Type 0} (to : S → T) (gone : S → Bool) where
  -- ---- files

  pub nth_stays : (p : Project S) (n : ℕ) → nth_file (project_without to gone p) n ≡ option_map (file_without to gone) (nth_file p n)
  nth_stays [] n = refl
  nth_stays (f ∷ files) zero = refl
  nth_stays (f ∷ files) (suc n) = nth_stays files n

  first_stays_named : (name : List ℕ) (p : Project S) → position_or_len (λ f. bytes_eq f.name name) (project_without to gone p) ≡ position_or_len (λ f. bytes_eq f.name name) p
  first_stays_named name [] = refl
  first_stays_named name (f ∷ files) = ap (λ n. cond (not (bytes_eq f.name name)) (1 + n) 0) (first_stays_named name files)

  pub length_stays : (p : Project S) → length (project_without to gone p) ≡ length p
  length_stays p = length-map p (file_without to gone)

  pub number_stays : (p : Project S) (name : List ℕ) → number_of (project_without to gone p) name ≡ number_of p name
  number_stays p name = ap₂ (λ n all. cond (nat_lt n all) (Some n) None) (first_stays_named name p) (length_stays p)

  -- ---- a call of `subdir`

  base_sort : (l : Listing S) → sort_of (call_with (codes "subdir") l) ≡ of_another
  unfolding encode_utf8 chars is_utf8
  base_sort l = refl

  abbrev pub entry_without : Entry S → Entry T
  entry_without c = record { place = to c.place; call = call_without to gone c.call }

  abbrev entry_if : {U : Type 0} → Bool → Entry U → Option (Entry U)
  entry_if b c = if b then Some c else None

  entry_by : (b : Bool) (c : Entry S) → entry_if b (entry_without c) ≡ option_map entry_without (entry_if b c)
  entry_by true c = refl
  entry_by false c = refl

  pub entry_stays : (e : Expression S) → entry_of (expression_without to gone e) ≡ option_map entry_without (entry_of e)
  entry_stays (identifier s x) = refl
  entry_stays (boolean s b) = refl
  entry_stays (integer s x) = refl
  entry_stays (string s q x) = refl
  entry_stays (paren s e) = refl
  entry_stays (array l) = refl
  entry_stays (dictionary l) = refl
  entry_stays (call s f l) = entry_by (bytes_eq f.text (codes "subdir")) (record { place = s; call = call_with f.text l })
  entry_stays (unary s o e) = refl
  entry_stays (row s e os) = refl
  entry_stays (postfix s e ts) = refl
  entry_stays (conditional s c y n) = refl

  sort_by_name : (f : List ℕ) (l : Listing S) → bytes_eq f (codes "subdir") ≡ true → sort_of (call_with f l) ≡ of_another
  sort_by_name f l is = subst (λ g. sort_of (call_with g l) ≡ of_another) (sym ((bytes_eq-Decides f (codes "subdir")).0 is)) (base_sort l)

  entry_sort_by : (f : List ℕ) (l : Listing S) (s : S) (c : Entry S) (b : Bool) → bytes_eq f (codes "subdir") ≡ b → entry_if b (record { place = s; call = call_with f l }) ≡ Some c → sort_of c.call ≡ of_another
  entry_sort_by f l s c true is found = subst (λ o. option_sort o) found (sort_by_name f l is)
    where
      option_sort : Option (Entry S) → Type 0
      option_sort None = Unit {0}
      option_sort (Some d) = sort_of d.call ≡ of_another
  entry_sort_by f l s c false is found = absurd cc

  pub entry_sort : (e : Expression S) (c : Entry S) → entry_of e ≡ Some c → sort_of c.call ≡ of_another
  entry_sort (call s f l) c found = entry_sort_by f.text l s c (bytes_eq f.text (codes "subdir")) refl found
  entry_sort (identifier s x) c found = absurd cc
  entry_sort (boolean s b) c found = absurd cc
  entry_sort (integer s x) c found = absurd cc
  entry_sort (string s q x) c found = absurd cc
  entry_sort (paren s e) c found = absurd cc
  entry_sort (array l) c found = absurd cc
  entry_sort (dictionary l) c found = absurd cc
  entry_sort (unary s o e) c found = absurd cc
  entry_sort (row s e os) c found = absurd cc
  entry_sort (postfix s e ts) c found = absurd cc
  entry_sort (conditional s d y n) c found = absurd cc

  -- ---- its keyword

  abbrev kept : {U : Type 0} → List ℕ → ℕ → Arguments U → ℕ
  kept key n list = length (filter_map (kept_number (value_with_name key)) (numbered n list))

  kept_plain : (b : Bool) (key : List ℕ) (i : ℕ) (e : Expression T) (more : Arguments T) (n : ℕ) → ((k : ℕ) → kept key k more ≡ n) → kept key i (kept_before b (plain e) more) ≡ n
  kept_plain true key i e more n is = is i
  kept_plain false key i e more n is = is (i + 1)

  kept_named : (b : Bool) (e : Expression T) (f : Expression S) (i j : ℕ) (xs : List (Numbered (Expression T))) (ys : List (Numbered (Expression S))) → length xs ≡ length ys
      → length (cons_option (option_map (λ (y : Expression T). record { number = i; value = y }) (if b then Some e else None)) xs) ≡ length (cons_option (option_map (λ (y : Expression S). record { number = j; value = y }) (if b then Some f else None)) ys)
  kept_named true e f i j xs ys is = ap suc is
  kept_named false e f i j xs ys is = is

  keyword_stays : (m : Loses) (key : List ℕ) (list : Arguments S) (i j : ℕ) → kept key i (arguments_without to gone m list) ≡ kept key j list
  keyword_stays m key no_arguments i j = refl
  keyword_stays m key (argument (plain e) more) i j =
      kept_plain (may_go m (literal_goes gone (literal_in e))) key i (expression_without to gone e) (arguments_without to gone (loses_after m (plain e)) more) (kept key (j + 1) more)
      (λ k. keyword_stays (loses_after m (plain e)) key more k (j + 1))
  keyword_stays nothing key (argument (named s x e) more) i j = kept_named (bytes_eq x.text key) (expression_without to gone e) e i j _ _ (keyword_stays nothing key more (i + 1) (j + 1))
  keyword_stays later_ones key (argument (named s x e) more) i j = kept_named (bytes_eq x.text key) (expression_without to gone e) e i j _ _ (keyword_stays later_ones key more (i + 1) (j + 1))
  keyword_stays each_one key (argument (named s x e) more) i j = kept_named (bytes_eq x.text key) (expression_without to gone e) e i j _ _ (keyword_stays each_one key more (i + 1) (j + 1))
  keyword_stays nothing key (argument (pair s e f) more) i j = keyword_stays nothing key more (i + 1) (j + 1)
  keyword_stays later_ones key (argument (pair s e f) more) i j = keyword_stays later_ones key more (i + 1) (j + 1)
  keyword_stays each_one key (argument (pair s e f) more) i j = keyword_stays each_one key more (i + 1) (j + 1)

  condition_stays : (m : Loses) (f : List ℕ) (l : Listing S) → has_condition (call_with f (listing_without to gone m l)) ≡ has_condition (call_with f l)
  condition_stays m f (listing s trailing list) = ap (nat_lt 0) (keyword_stays m (codes "if_found") list 0 0)

  -- ---- what it enters

  entering_same : (c : Call S) (d : Call T) (o p : Option ℕ) → has_condition d ≡ has_condition c → p ≡ o → entering d p ≡ entering c o
  entering_same c d None p is same = ap (entering d) same
  entering_same c d (Some n) p is same = ap (entering d) same ∙ ap (Enters n) is

  module _ (p : Project S) (f : BuildFile S) (q : CallRef) (c : Call S) (another : sort_of c ≡ of_another) where
    some_stay : loses (sort_of c) ≢ each_one
    some_stay same = let loses_none : loses (sort_of c) ≡ nothing = ap loses another in cc

    literal_same : entering_literal (project_without to gone p) (file_without to gone f) (call_without to gone c) ≡ entering_literal p f c
    literal_same =
        entering_same c (call_without to gone c) (option_and_then (number_of p) (meant_as Followed f.name c)) (option_and_then (number_of (project_without to gone p)) (meant_as Followed f.name (call_without to gone c)))
        (condition_stays (loses (sort_of c)) c.function c.arguments)
        (ap₂ option_and_then (fun_ext (number_stays p)) (ap (option_and_then (folder_file Followed f.name)) (first_literal_kept to gone (loses (sort_of c)) some_stay c.function c.arguments)))

    pub entered_same : MeansTheSame to gone f (placed q c) → entered_by (project_without to gone p) (file_without to gone f) (placed q (call_without to gone c)) ≡ entered_by p f (placed q c)
    entered_same means =
        ap (entering_by (project_without to gone p) (file_without to gone f) (placed q (call_without to gone c))) (first_stays to gone (loses (sort_of c)) some_stay c.function c.arguments)
        ∙ by_argument (first_argument c) refl
      where
        by_name : (e : Expression S) → first_argument c ≡ Some e → (b : Bool) → is_name e ≡ b
            → (if b then entering_each (project_without to gone p) (file_without to gone f) (placed q (call_without to gone c)) else entering_literal (project_without to gone p) (file_without to gone f) (call_without to gone c))
            ≡ (if b then entering_each p f (placed q c) else entering_literal p f c)
        by_name e first true is =
            ap₂ (λ (number : List ℕ → Option ℕ) names. MayEnter (filter_map number names)) (fun_ext (number_stays p)) (means (ap is_named first ∙ is))
        by_name e first false is = literal_same

        by_argument : (o : Option (Expression S)) → first_argument c ≡ o
            → entering_by (project_without to gone p) (file_without to gone f) (placed q (call_without to gone c)) (option_map (expression_without to gone) o) ≡ entering_by p f (placed q c) o
        by_argument None first = literal_same
        by_argument (Some e) first =
            ap (λ b. if b then entering_each (project_without to gone p) (file_without to gone f) (placed q (call_without to gone c)) else entering_literal (project_without to gone p) (file_without to gone f) (call_without to gone c)) (is_name_stays to gone e)
            ∙ by_name e first (is_name e) refl
