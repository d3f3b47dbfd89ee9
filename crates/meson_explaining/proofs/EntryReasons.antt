-- Which entries of a command are refused for a name.
use Rattle.std.proofs.Common.{◌≡◌, ℕ, true, false, List, [], ◌∷◌, ◌++◌, Option, Some, None, refl, sym, ap, ◌∙◌, subst}
use Rattle.std.specs.Prelude.{Bool, cond, not, ◌==◌, ◌&&◌, ◌||◌, Result, Ok, Err, if◌then◌else◌, bytes_eq, codes, find, is_some, ok_or, option_map}
use Rattle.std.specs.List.{list_all}
use Rattle.std.proofs.lemmas.Bool.{and_parts}
use Rattle.std.proofs.lemmas.Slice.Eq.{bytes_eq-Decides}
use Rattle.meson_splice.specs.Patch.{then_ok}
use Rattle.meson_edit.specs.Edits.{is_empty}
use Rattle.meson_calls.specs.Keys.{identifier_list_keys, switch_keys, text_keys, text_list_keys}
use Rattle.meson_calls.specs.Roles.{one_of}
use Rattle.meson_calls.specs.declared.call.Role.{Role}
use Rattle.meson_calls.specs.declared.call.Role.TheVariants as role
use Rattle.meson_calls.specs.declared.refusal.Refusal.{Refusal}
use Rattle.meson_calls.specs.declared.refusal.Refusal.TheVariants as refusal
use Rattle.meson_keywords.specs.Tasks.{Task, add_entry, before_equals, checked_option, delete, delete_entry, each_made, remove_entry, set, set_entry}
use Rattle.meson_keywords.specs.ValueKinds.{is_identifier, key_kind, list_kind, setting_text, setting_texts, truth_of, written_switch, written_value}
use Rattle.meson_steps.specs.WrittenTexts.{written_text}
use Rattle.meson_steps.specs.declared.command.Setting.{Setting}
use Rattle.meson_steps.specs.declared.command.Setting.TheVariants as setting
use Rattle.meson_explaining.specs.Names.{bad_value, has_equals, is_bad_option, is_bad_pair, is_bad_variable}
use Rattle.meson_explaining.proofs.NameReasons.{Free, OfNames, after, is_bad, or_free}

-- ---- values

-- either all are names of variables, or one is found that is not
all_named : (ts : List (List ℕ)) → is_some (find is_bad_variable ts) ≡ not (list_all is_identifier ts)
all_named [] = refl
all_named (t ∷ ts) = go (is_identifier t) (all_named ts)
  where
    go : (b : Bool) → is_some (find is_bad_variable ts) ≡ not (list_all is_identifier ts) → is_some (cond (not b) (Some t) (find is_bad_variable ts)) ≡ not (b && list_all is_identifier ts)
    go true later = later
    go false later = refl

-- the values of a list of variables
abbrev pub valid : List (List ℕ) → Result (List (List ℕ)) Refusal
valid ts = if list_all is_identifier ts then Ok ts else Err refusal.BadName

abbrev pub variables : List ℕ → Setting → Result (List (List ℕ)) Refusal
variables key s = then_ok (ok_or (setting_texts s) (refusal.WrongKind key)) valid

values_by : (ts : List (List ℕ)) (b : Bool) → not b ≡ false → Free is_bad (if b then Ok ts else Err refusal.BadName)
values_by ts true is = tt
values_by ts false is = absurd (let no : ⊥ = cc in no)

refused_by : (ts : List (List ℕ)) (b : Bool) → not b ≡ true → (if b then Ok ts else Err refusal.BadName) ≡ Err refusal.BadName
refused_by ts true is = absurd (let no : ⊥ = cc in no)
refused_by ts false is = refl

variables_good : (key : List ℕ) (s : Setting) → is_some (bad_value s) ≡ false → Free is_bad (variables key s)
variables_good key (setting.Text t) is = values_by (t ∷ []) (list_all is_identifier (t ∷ [])) (sym (all_named (t ∷ [])) ∙ is)
variables_good key (setting.Bool b) is = refl
variables_good key (setting.Texts ts) is = values_by ts (list_all is_identifier ts) (sym (all_named ts) ∙ is)

variables_bad : (key : List ℕ) (s : Setting) → is_some (bad_value s) ≡ true → variables key s ≡ Err refusal.BadName
variables_bad key (setting.Text t) is = refused_by (t ∷ []) (list_all is_identifier (t ∷ [])) (sym (all_named (t ∷ [])) ∙ is)
variables_bad key (setting.Bool b) is = absurd (let no : ⊥ = cc in no)
variables_bad key (setting.Texts ts) is = refused_by ts (list_all is_identifier ts) (sym (all_named ts) ∙ is)

module _ (q : Refusal → Bool) (apart : OfNames q) (no_name : q refusal.BadName ≡ false) where
  either : (ts : List (List ℕ)) (b : Bool) → Free q (if b then Ok ts else Err refusal.BadName)
  either ts true = tt
  either ts false = no_name

  pub values_free : (key : List ℕ) (s : Setting) → Free q (variables key s)
  values_free key s = after q (ok_or (setting_texts s) (refusal.WrongKind key)) valid (or_free q (setting_texts s) (refusal.WrongKind key) (apart.wrong_kind key)) (λ ts. either ts (list_all is_identifier ts))

-- ---- entries that are not refused for a name

chained : {A B C : Type 0} (x : Result A Refusal) (f : A → Result B Refusal) (g : B → Result C Refusal) → then_ok (then_ok x f) g ≡ then_ok x (λ y. then_ok (f y) g)
chained (Ok y) f g = refl
chained (Err e) f g = refl

module _ (q : Refusal → Bool) (apart : OfNames q) where
  kind_by : {K B : Type 0} (key : List ℕ) (text switch texts names : K) (f : K → Result B Refusal) (a b c d : Bool) → Free q (f text) → Free q (f switch) → Free q (f texts) → (d ≡ true → Free q (f names))
      → Free q (then_ok (if a then Ok text else (if b then Ok switch else (if c then Ok texts else (if d then Ok names else Err (refusal.UnknownKey key))))) f)
  kind_by key text switch texts names f true b c d one two three four = one
  kind_by key text switch texts names f false true c d one two three four = two
  kind_by key text switch texts names f false false true d one two three four = three
  kind_by key text switch texts names f false false false true one two three four = four refl
  kind_by key text switch texts names f false false false false one two three four = apart.unknown_key key

  pub delete_free : (r : Role) (key : List ℕ) → Free q (delete_entry r key)
  delete_free r key =
      kind_by key _ _ _ _ (λ k. Ok (delete key ∷ [])) (one_of (text_keys r) key) (one_of (switch_keys r) key) (one_of (text_list_keys r) key) (one_of (identifier_list_keys r) key) tt tt tt (λ takes. tt)

  module _ (r : Role) (pair : List ℕ × Setting) (names : one_of (identifier_list_keys r) pair.0 ≡ true → Free q (variables pair.0 pair.1)) where
    pub set_free : Free q (set_entry r pair)
    set_free =
        kind_by pair.0 _ _ _ _ (λ k. then_ok (written_value k pair.0 pair.1) (λ new. Ok (set pair.0 new ∷ [])))
        (one_of (text_keys r) pair.0) (one_of (switch_keys r) pair.0) (one_of (text_list_keys r) pair.0) (one_of (identifier_list_keys r) pair.0)
        (after q (ok_or (option_map written_text (setting_text pair.1)) (refusal.WrongKind pair.0)) _ (or_free q _ (refusal.WrongKind pair.0) (apart.wrong_kind pair.0)) (λ new. tt))
        (after q (ok_or (option_map written_switch (truth_of pair.1)) (refusal.WrongKind pair.0)) _ (or_free q _ (refusal.WrongKind pair.0) (apart.wrong_kind pair.0)) (λ new. tt))
        (after q _ _ (after q (then_ok (ok_or (setting_texts pair.1) (refusal.WrongKind pair.0)) (λ ts. Ok ts)) _
        (after q (ok_or (setting_texts pair.1) (refusal.WrongKind pair.0)) (λ ts. Ok ts) (or_free q (setting_texts pair.1) (refusal.WrongKind pair.0) (apart.wrong_kind pair.0)) (λ ts. tt)) (λ ts. tt)) (λ new. tt))
        (λ takes. after q _ _ (after q (variables pair.0 pair.1) _ (names takes) (λ ts. tt)) (λ new. tt))

    -- of an entry whose values are a list
    pub add_free : Free q (add_entry r pair)
    add_free =
        subst (Free q) (sym (chained (key_kind r pair.0) (list_kind pair.0) _))
        (kind_by pair.0 _ _ _ _ _ (one_of (text_keys r) pair.0) (one_of (switch_keys r) pair.0) (one_of (text_list_keys r) pair.0) (one_of (identifier_list_keys r) pair.0)
        (apart.wrong_kind pair.0) (apart.wrong_kind pair.0)
        (after q (then_ok (ok_or (setting_texts pair.1) (refusal.WrongKind pair.0)) (λ ts. Ok ts)) _
        (after q (ok_or (setting_texts pair.1) (refusal.WrongKind pair.0)) (λ ts. Ok ts) (or_free q (setting_texts pair.1) (refusal.WrongKind pair.0) (apart.wrong_kind pair.0)) (λ ts. tt)) (λ ts. tt))
        (λ takes. after q (variables pair.0 pair.1) _ (names takes) (λ ts. tt)))

    pub remove_free : Free q (remove_entry r pair)
    remove_free =
        subst (Free q) (sym (chained (key_kind r pair.0) (list_kind pair.0) _))
        (kind_by pair.0 _ _ _ _ _ (one_of (text_keys r) pair.0) (one_of (switch_keys r) pair.0) (one_of (text_list_keys r) pair.0) (one_of (identifier_list_keys r) pair.0)
        (apart.wrong_kind pair.0) (apart.wrong_kind pair.0)
        (after q (then_ok (ok_or (setting_texts pair.1) (refusal.WrongKind pair.0)) (λ ts. Ok ts)) _
        (after q (ok_or (setting_texts pair.1) (refusal.WrongKind pair.0)) (λ ts. Ok ts) (or_free q (setting_texts pair.1) (refusal.WrongKind pair.0) (apart.wrong_kind pair.0)) (λ ts. tt)) (λ ts. tt))
        (λ takes. after q (variables pair.0 pair.1) _ (names takes) (λ ts. tt)))

-- ---- entries that are refused for a name that is not valid

bad_then : {A B : Type 0} (r : Result A Refusal) (f : A → Result B Refusal) → r ≡ Err refusal.BadName → then_ok r f ≡ Err refusal.BadName
bad_then r f is = ap (λ s. then_ok s f) is

-- a key that takes variables is one of two
one_of_two : (key : List ℕ) (P : List ℕ → Type 0) (a b : Bool) → bytes_eq (codes "dependencies") key ≡ a → bytes_eq (codes "link_with") key ≡ b → a || (b || false) ≡ true → P (codes "dependencies")
    → P (codes "link_with") → P key
one_of_two key P true b first other is one two = subst P ((bytes_eq-Decides (codes "dependencies") key).0 first) one
one_of_two key P false true first other is one two = subst P ((bytes_eq-Decides (codes "link_with") key).0 other) two
one_of_two key P false false first other is one two = absurd (let no : ⊥ = cc in no)

takes_variables : (r : Role) (key : List ℕ) (P : Role → List ℕ → Type 0) → one_of (identifier_list_keys r) key ≡ true → P role.Target (codes "dependencies") → P role.Target (codes "link_with") → P r key
takes_variables role.Project key P is one two = absurd (let no : ⊥ = cc in no)
takes_variables role.Dependency key P is one two = absurd (let no : ⊥ = cc in no)
takes_variables role.Target key P is one two = one_of_two key (P role.Target) (bytes_eq (codes "dependencies") key) (bytes_eq (codes "link_with") key) refl refl is one two

module _ (r : Role) (pair : List ℕ × Setting) where
  pub good_values : is_bad_pair r pair ≡ false → one_of (identifier_list_keys r) pair.0 ≡ true → Free is_bad (variables pair.0 pair.1)
  good_values good takes = variables_good pair.0 pair.1 (ap (λ b. b && is_some (bad_value pair.1)) (sym takes) ∙ good)

  module _ (bad : is_bad_pair r pair ≡ true) where
    takes : one_of (identifier_list_keys r) pair.0 ≡ true
    takes = (and_parts (one_of (identifier_list_keys r) pair.0) (is_some (bad_value pair.1)) bad).0

    values_bad : (key : List ℕ) → variables key pair.1 ≡ Err refusal.BadName
    values_bad key = variables_bad key pair.1 (and_parts (one_of (identifier_list_keys r) pair.0) (is_some (bad_value pair.1)) bad).1

    pub set_bad : set_entry r pair ≡ Err refusal.BadName
    set_bad =
        takes_variables r pair.0 (λ o k. set_entry o (k, pair.1) ≡ Err refusal.BadName) takes
        (bad_then _ _ (bad_then _ _ (values_bad (codes "dependencies")))) (bad_then _ _ (bad_then _ _ (values_bad (codes "link_with"))))

    pub add_bad : add_entry r pair ≡ Err refusal.BadName
    add_bad =
        takes_variables r pair.0 (λ o k. add_entry o (k, pair.1) ≡ Err refusal.BadName) takes
        (bad_then _ _ (values_bad (codes "dependencies"))) (bad_then _ _ (values_bad (codes "link_with")))

    pub remove_bad : remove_entry r pair ≡ Err refusal.BadName
    remove_bad =
        takes_variables r pair.0 (λ o k. remove_entry o (k, pair.1) ≡ Err refusal.BadName) takes
        (bad_then _ _ (values_bad (codes "dependencies"))) (bad_then _ _ (values_bad (codes "link_with")))

-- ---- options

some_mapped : (b : ℕ) (o : Option (List ℕ)) → is_some (option_map (λ front. b ∷ front) o) ≡ is_some o
some_mapped b None = refl
some_mapped b (Some x) = refl

equals_same : (bs : List ℕ) → is_some (before_equals bs) ≡ has_equals bs
equals_same [] = refl
equals_same (b ∷ bs) = go (b == 61) (equals_same bs)
  where
    go : (t : Bool) → is_some (before_equals bs) ≡ has_equals bs → is_some (if t then Some [] else option_map (λ front. b ∷ front) (before_equals bs)) ≡ t || has_equals bs
    go true later = refl
    go false later = some_mapped b (before_equals bs) ∙ later

option_same : (name : List ℕ) → is_empty name || is_some (before_equals name) ≡ is_bad_option name
option_same [] = refl
option_same (b ∷ bs) = equals_same (b ∷ bs)

abbrev checked_by : Bool → Result (Unit {0}) Refusal
checked_by b = if b then Err refusal.BadName else Ok tt

checked_good : (b : Bool) → b ≡ false → Free is_bad (checked_by b)
checked_good true is = absurd (let no : ⊥ = cc in no)
checked_good false is = tt

pub option_good : (name : List ℕ) → is_bad_option name ≡ false → Free is_bad (checked_option name)
option_good name good = checked_good (is_empty name || is_some (before_equals name)) (option_same name ∙ good)

pub option_bad : (name : List ℕ) → is_bad_option name ≡ true → checked_option name ≡ Err refusal.BadName
option_bad name bad = ap checked_by (option_same name ∙ bad)

checked_free : (q : Refusal → Bool) (b : Bool) → q refusal.BadName ≡ false → Free q (checked_by b)
checked_free q true valid = valid
checked_free q false valid = tt

pub option_free : (q : Refusal → Bool) (name : List ℕ) → q refusal.BadName ≡ false → Free q (checked_option name)
option_free q name valid = checked_free q (is_empty name || is_some (before_equals name)) valid

-- ---- one entry after another

module _ {X : Type 0} (q : Refusal → Bool) (entry : X → Result (List Task) Refusal) where
  one_more : (x : X) (xs : List X) → Free q (entry x) → Free q (each_made entry xs) → Free q (each_made entry (x ∷ xs))
  one_more x xs here later = after q (entry x) _ here (λ ts. after q (each_made entry xs) (λ us. Ok (ts ++ us)) later (λ us. tt))

  pub each_free : ((x : X) → Free q (entry x)) → (xs : List X) → Free q (each_made entry xs)
  each_free free [] = tt
  each_free free (x ∷ xs) = one_more x xs (free x) (each_free free xs)

  pub each_good : (test : X → Bool) → ((x : X) → test x ≡ false → Free q (entry x)) → (xs : List X) → find test xs ≡ None → Free q (each_made entry xs)
  each_good test good [] none = tt
  each_good test good (x ∷ xs) none = go (test x) refl none (each_good test good xs)
    where
      go : (b : Bool) → test x ≡ b → cond b (Some x) (find test xs) ≡ None → (find test xs ≡ None → Free q (each_made entry xs)) → Free q (each_made entry (x ∷ xs))
      go true is e later = absurd (let no : ⊥ = cc in no)
      go false is e later = one_more x xs (good x is) (later e)

pub one_bad : {X : Type 0} (entry : X → Result (List Task) Refusal) (x : X) → entry x ≡ Err refusal.BadName → each_made entry (x ∷ []) ≡ Err refusal.BadName
one_bad entry x is = ap (λ r. then_ok r (λ here. then_ok (each_made entry []) (λ later. Ok (here ++ later)))) is
