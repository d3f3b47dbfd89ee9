-- Tasks made from the entries of a command, one entry after another.
use Rattle.meson_keywords.proofs.Words.{◌≡◌, ℕ, ◌+◌, ◌<◌, List, [], ◌∷◌, ◌++◌, length, get_or, drop, take, map, refl, sym, ap, ◌∙◌, add-one, append_assoc}
use Rattle.meson_keywords.proofs.Words.{codes, Result, Ok, Err, IsUtf8, drop-cons, map-append, IsUtf8-append, then_ok, Nowhere, Expression, Written, Role}
use Rattle.meson_keywords.proofs.Words.{Refusal, take_more, Setting, WrittenFor, value_written, option_text, TaskIs, MayBeWritten, IsValue, Task, set, delete}
use Rattle.meson_keywords.proofs.Words.{add, remove, once, set_option, delete_option, checked_option, each_made, set_entry, delete_entry, add_entry}
use Rattle.meson_keywords.proofs.Words.{remove_entry, set_option_entry, delete_option_entry, key_kind, list_kind, list_values, written_value, ElementKind}
use Rattle.meson_keywords.proofs.Words.{ValueKind, TasksSoFar, TasksAre, AreTasksBehind}
use Rattle.std.specs.Char.{encode_utf8}
use Rattle.meson_keywords.specs.declared.tasks.Task as code
use Rattle.meson_keywords.specs.inside.Tasking.{none, one}

pub are_append : (cs ds : List code.Task) (ts us : List Task) → TasksAre cs ts → TasksAre ds us → TasksAre (cs ++ ds) (ts ++ us)
are_append cs ds ts us none more = more
are_append cs ds ts us (one c t before rest is may are) more = one c t (before ++ ds) (rest ++ us) is may (are_append before ds rest us are more)

same_made : (r : Result (List Task) Refusal) → r ≡ then_ok r (λ later. Ok ([] ++ later))
same_made (Ok ts) = refl
same_made (Err e) = refl

pub none_so_far : (whole : Result (List Task) Refusal) → TasksSoFar whole whole []
none_so_far whole = record { so_far = []; are = none; joined = same_made whole }

module _ {X : Type 0} (make : X → Result (List Task) Refusal) (xs : List X) (whole : Result (List Task) Refusal) (cs : List code.Task) (i : ℕ) (t : TasksSoFar whole (each_made make (drop i xs)) cs) where
  module _ (d : X) (within : i < length xs) where
    rest_is : drop i xs ≡ get_or xs i d ∷ drop (i + 1) xs
    rest_is = drop-cons xs i d within ∙ ap (λ k. get_or xs i d ∷ drop k xs) (sym (add-one i))

    abbrev joined_with : Result (List Task) Refusal → Result (List Task) Refusal
    joined_with r = then_ok r (λ later. Ok (t.so_far ++ later))

    whole_is : whole ≡ joined_with (each_made make (get_or xs i d ∷ drop (i + 1) xs))
    whole_is = t.joined ∙ ap (λ ys. joined_with (each_made make ys)) rest_is

    pub not_made : (e : Refusal) → make (get_or xs i d) ≡ Err e → whole ≡ Err e
    not_made e is = whole_is ∙ ap (λ r. joined_with (then_ok r (λ here. then_ok (each_made make (drop (i + 1) xs)) (λ later. Ok (here ++ later))))) is

    regroup : (here : List Task) (r : Result (List Task) Refusal) → joined_with (then_ok r (λ later. Ok (here ++ later))) ≡ then_ok r (λ later. Ok ((t.so_far ++ here) ++ later))
    regroup here (Ok later) = ap Ok (sym (append_assoc t.so_far here later))
    regroup here (Err e) = refl

    pub one_made : (here : List Task) (new : List code.Task) → make (get_or xs i d) ≡ Ok here → TasksAre new here → TasksSoFar whole (each_made make (drop (i + 1) xs)) (cs ++ new)
    one_made here new is are = record {
      so_far = t.so_far ++ here;
      are = are_append cs new t.so_far here t.are are;
      joined = whole_is ∙ ap (λ r. joined_with (then_ok r (λ ts. then_ok (each_made make (drop (i + 1) xs)) (λ later. Ok (ts ++ later))))) is ∙ regroup here (each_made make (drop (i + 1) xs));
    }

-- ---- entries

module _ (r : Role) (pair : List ℕ × Setting) where
  pub add_no_list : (e : Refusal) → then_ok (key_kind r pair.0) (list_kind pair.0) ≡ Err e → add_entry r pair ≡ Err e
  add_no_list e is = ap (λ k. then_ok k (λ x. then_ok (list_values x pair.0 pair.1) (λ values. Ok (add pair.0 x values ∷ [])))) is

  pub remove_no_list : (e : Refusal) → then_ok (key_kind r pair.0) (list_kind pair.0) ≡ Err e → remove_entry r pair ≡ Err e
  remove_no_list e is = ap (λ k. then_ok k (λ x. then_ok (list_values x pair.0 pair.1) (λ values. Ok (once pair.0 ∷ map (remove pair.0 x) values)))) is

  pub set_no_kind : (e : Refusal) → key_kind r pair.0 ≡ Err e → set_entry r pair ≡ Err e
  set_no_kind e is = ap (λ o. then_ok o (λ x. then_ok (written_value x pair.0 pair.1) (λ w. Ok (set pair.0 w ∷ [])))) is

  module _ (k : ElementKind) (is_list : then_ok (key_kind r pair.0) (list_kind pair.0) ≡ Ok k) where
    pub add_by_kind : add_entry r pair ≡ then_ok (list_values k pair.0 pair.1) (λ values. Ok (add pair.0 k values ∷ []))
    add_by_kind = ap (λ o. then_ok o (λ x. then_ok (list_values x pair.0 pair.1) (λ values. Ok (add pair.0 x values ∷ [])))) is_list

    pub add_no_values : (e : Refusal) → list_values k pair.0 pair.1 ≡ Err e → add_entry r pair ≡ Err e
    add_no_values e is = add_by_kind ∙ ap (λ o. then_ok o (λ values. Ok (add pair.0 k values ∷ []))) is

    pub add_made : (vs : List (List ℕ)) → list_values k pair.0 pair.1 ≡ Ok vs → add_entry r pair ≡ Ok (add pair.0 k vs ∷ [])
    add_made vs is = add_by_kind ∙ ap (λ o. then_ok o (λ values. Ok (add pair.0 k values ∷ []))) is

    pub remove_by_kind : remove_entry r pair ≡ then_ok (list_values k pair.0 pair.1) (λ values. Ok (once pair.0 ∷ map (remove pair.0 k) values))
    remove_by_kind = ap (λ o. then_ok o (λ x. then_ok (list_values x pair.0 pair.1) (λ values. Ok (once pair.0 ∷ map (remove pair.0 x) values)))) is_list

    pub remove_no_values : (e : Refusal) → list_values k pair.0 pair.1 ≡ Err e → remove_entry r pair ≡ Err e
    remove_no_values e is = remove_by_kind ∙ ap (λ o. then_ok o (λ values. Ok (once pair.0 ∷ map (remove pair.0 k) values))) is

    pub remove_made : (vs : List (List ℕ)) → list_values k pair.0 pair.1 ≡ Ok vs → remove_entry r pair ≡ Ok (once pair.0 ∷ map (remove pair.0 k) vs)
    remove_made vs is = remove_by_kind ∙ ap (λ o. then_ok o (λ values. Ok (once pair.0 ∷ map (remove pair.0 k) values))) is

  module _ (k : ValueKind) (is_kind : key_kind r pair.0 ≡ Ok k) where
    set_by_kind : set_entry r pair ≡ then_ok (written_value k pair.0 pair.1) (λ w. Ok (set pair.0 w ∷ []))
    set_by_kind = ap (λ o. then_ok o (λ x. then_ok (written_value x pair.0 pair.1) (λ w. Ok (set pair.0 w ∷ [])))) is_kind

    pub set_no_value : (e : Refusal) → written_value k pair.0 pair.1 ≡ Err e → set_entry r pair ≡ Err e
    set_no_value e is = set_by_kind ∙ ap (λ o. then_ok o (λ w. Ok (set pair.0 w ∷ []))) is

    pub set_made : (new : Written (Expression Nowhere)) → written_value k pair.0 pair.1 ≡ Ok new → set_entry r pair ≡ Ok (set pair.0 new ∷ [])
    set_made new is = set_by_kind ∙ ap (λ o. then_ok o (λ w. Ok (set pair.0 w ∷ []))) is

pub delete_made : (r : Role) (key : List ℕ) (k : ValueKind) → key_kind r key ≡ Ok k → delete_entry r key ≡ Ok (delete key ∷ [])
delete_made r key k is = ap (λ o. then_ok o (λ x. Ok (delete key ∷ []))) is

pub delete_no_kind : (r : Role) (key : List ℕ) (e : Refusal) → key_kind r key ≡ Err e → delete_entry r key ≡ Err e
delete_no_kind r key e is = ap (λ o. then_ok o (λ x. Ok (delete key ∷ []))) is

pub set_option_made : (pair : List ℕ × List ℕ) → checked_option pair.0 ≡ Ok tt → set_option_entry pair ≡ Ok (set_option pair.0 pair.1 ∷ [])
set_option_made pair is = ap (λ o. then_ok o (λ _. Ok (set_option pair.0 pair.1 ∷ []))) is

pub set_no_option : (pair : List ℕ × List ℕ) (e : Refusal) → checked_option pair.0 ≡ Err e → set_option_entry pair ≡ Err e
set_no_option pair e is = ap (λ o. then_ok o (λ _. Ok (set_option pair.0 pair.1 ∷ []))) is

pub delete_option_made : (name : List ℕ) → checked_option name ≡ Ok tt → delete_option_entry name ≡ Ok (delete_option name ∷ [])
delete_option_made name is = ap (λ o. then_ok o (λ _. Ok (delete_option name ∷ []))) is

pub delete_no_option : (name : List ℕ) (e : Refusal) → checked_option name ≡ Err e → delete_option_entry name ≡ Err e
delete_no_option name e is = ap (λ o. then_ok o (λ _. Ok (delete_option name ∷ []))) is

-- ---- what may be written

pub value_may : (bytes : List ℕ) (w : WrittenFor bytes) → IsValue (value_written bytes w)
value_may bytes w = (w.writes, w.level, w.shallow)

equals_text : IsUtf8 (codes "=")
unfolding encode_utf8
equals_text = (codes "=", (refl, refl))

pub option_may : (name value : List ℕ) → IsUtf8 name → IsUtf8 value → IsUtf8 (option_text name value)
option_may name value named valued = IsUtf8-append name (codes "=" ++ value) named (IsUtf8-append (codes "=") value equals_text valued)

-- one task of the code
pub one_is : (c : code.Task) (t : Task) → TaskIs c t → MayBeWritten t → TasksAre (c ∷ []) (t ∷ [])
one_is c t is may = one c t [] [] is may none

-- ---- tasks behind those before

pub behind_one : (before after : List code.Task) (c : code.Task) (t : Task) → after ≡ before ++ c ∷ [] → TaskIs c t → MayBeWritten t → AreTasksBehind (Ok (t ∷ [])) before after
behind_one before after c t joined is may = record { more = c ∷ []; joined = joined; are = record { tasks = t ∷ []; is = refl; are = one_is c t is may } }

abbrev made_of : List Task → Result (List Task) Refusal
made_of ts = Ok ts

ok_is : (ts us : List Task) → made_of ts ≡ Ok us → ts ≡ us
ok_is ts us is = cc

pub behind_more : (before mid after : List code.Task) (ts us : List Task) (c : code.Task) (t : Task) → AreTasksBehind (Ok ts) before mid → after ≡ mid ++ c ∷ [] → TaskIs c t → MayBeWritten t → us ≡ ts ++ t ∷ [] → AreTasksBehind (Ok us) before after
behind_more before mid after ts us c t b joined is may all = record {
  more = b.more ++ c ∷ [];
  joined = joined ∙ ap (λ xs. xs ++ c ∷ []) b.joined ∙ append_assoc before b.more (c ∷ []);
  are = record { tasks = b.are.tasks ++ t ∷ []; is = ap Ok (all ∙ ap (λ xs. xs ++ t ∷ []) (ok_is ts b.are.tasks b.are.is)); are = are_append b.more (c ∷ []) b.are.tasks (t ∷ []) b.are.are (one_is c t is may) };
}

pub more_removed : (key : List ℕ) (k : ElementKind) (xs : List (List ℕ)) (i : ℕ) (x : List ℕ) → i < length xs → get_or xs i x ≡ x
    → once key ∷ map (remove key k) (take (i + 1) xs) ≡ (once key ∷ map (remove key k) (take i xs)) ++ remove key k x ∷ []
more_removed key k xs i x within is =
    ap (λ ys. once key ∷ map (remove key k) ys) (take_more xs i x within ∙ ap (λ y. take i xs ++ y ∷ []) is) ∙ ap (λ zs. once key ∷ zs) (map-append (remove key k) (take i xs) (x ∷ []))
