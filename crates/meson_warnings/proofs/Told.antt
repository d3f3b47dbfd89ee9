-- What warnings say is so: the laws.
use Rattle.std.proofs.Common.{◌≡◌, ◌⊎◌, inl, inr, ℕ, List, [], ◌∷◌, ◌++◌, length, map, refl, sym, ap, ◌∙◌}
use Rattle.std.specs.Prelude.{◌-◌, ◌==◌, Bool, true, false, not, ◌&&◌, ◌||◌, bytes_eq, codes, decimal, flat_map, if◌then◌else◌, take}
use Rattle.std.specs.List.{All, Contains, list_any}
use Rattle.std.proofs.lemmas.Bool.{and_parts, or_parts}
use Rattle.std.proofs.lemmas.Slice.Eq.{bytes_eq-Decides}
use Rattle.std.proofs.lemmas.List.Elements.{All-append, All-cons, All-contains_itself, All-head, All-map, All-nil, All-tail, All-take, All-weaker}
use Rattle.meson_lex.specs.declared.kinds.Span.{Span}
use Rattle.meson_syntax.specs.Tree.{Expression}
use Rattle.meson_calls.specs.declared.call.Role.{Role}
use Rattle.meson_calls.specs.declared.call.Role.TheVariants as role
use Rattle.meson_calls.specs.Loading.{Loaded, project}
use Rattle.meson_calls.specs.Notes.{a_call, an_assignment, a_loop, notes}
use Rattle.meson_calls.specs.Notes as read
use Rattle.meson_calls.specs.Project.{Placed}
use Rattle.meson_inventory.specs.Holdings.{calls_held, calls_named, targets_held}
use Rattle.meson_inventory.specs.declared.holdings.HeldCall.{HeldCall}
use Rattle.meson_steps.proofs.Distincts.{All-distinct}
use Rattle.meson_steps.specs.Names.{distinct}
use Rattle.meson_explaining.specs.Notes.{call_note, further, plain_note}
use Rattle.meson_explaining.specs.declared.explanation.Note.{Note}
use Rattle.meson_explaining.specs.declared.explanation.Spot.{Spot}
use Rattle.meson_warnings.specs.Known.{names_one, readers_known, setters_known}
use Rattle.meson_warnings.specs.Laws.{IsCount, IsLeft, IsSharer, IsUnset, LeftAreUnread, SharersRead, UnsetAreUnset}
use Rattle.meson_warnings.specs.LeftVariables.{all_left, few_left, is_read_outside, left_by, left_in, left_note, left_of, readers, variables_at}
use Rattle.meson_warnings.specs.Reads.{is_in_one, is_inside, reads}
use Rattle.meson_warnings.specs.SharedLists.{few_sharers, is_same, is_sharer, reads_one, sharer_notes, sharers, sharers_at}
use Rattle.meson_warnings.specs.UnsetNames.{assigns, is_set, names_in, unset_among, unset_at, unset_names, unset_note, unset_words}
use Rattle.meson_calls.specs.declared.call.CallName.{CallName}

-- ---- lists

module _ {X Y : Type 0} (P : Y → Type 0) (f : X → List Y) where
  joined : (xs : List X) → All (λ x. All P (f x)) xs → All P (flat_map f xs)
  joined [] all = All-nil P
  joined (x ∷ xs) all =
      All-append P (f x) (flat_map f xs) (All-head (λ y. All P (f y)) x xs all) (joined xs (All-tail (λ y. All P (f y)) x xs all))

  -- what holds of all that is made of each element that has Q
  pub All-made : (Q : X → Type 0) (xs : List X) → All Q xs → ((x : X) → Q x → All P (f x)) → All P (flat_map f xs)
  All-made Q xs all made = joined xs (All-weaker Q (λ x. All P (f x)) made xs all)

module _ {X : Type 0} (p : X → Bool) where
  none_pass : (xs : List X) → list_any p xs ≡ false → All (λ x. p x ≡ false) xs
  none_pass [] is = All-nil (λ x. p x ≡ false)
  none_pass (x ∷ xs) is =
      let parts = or_parts (p x) (list_any p xs) is in
      All-cons (λ y. p y ≡ false) x xs parts.0 (none_pass xs parts.1)

  -- an element that passes, and what holds of each
  one_passes : (Q : X → Type 0) (xs : List X) → list_any p xs ≡ true → All Q xs → (x : X) × (p x ≡ true) × Q x
  one_passes Q [] is all = absurd (let no : ⊥ = cc in no)
  one_passes Q (x ∷ xs) is all = go (p x) refl (λ rest. one_passes Q xs rest (All-tail Q x xs all))
    where
      go : (b : Bool) → p x ≡ b → (list_any p xs ≡ true → (y : X) × (p y ≡ true) × Q y) → (y : X) × (p y ≡ true) × Q y
      go true e later = (x, e, All-head Q x xs all)
      go false e later = later (sym (ap (λ b. b || list_any p xs) e) ∙ is)

from_not : (b : Bool) → not b ≡ true → b ≡ false
from_not true is = absurd (let no : ⊥ = cc in no)
from_not false is = refl

from_not_false : (b : Bool) → not b ≡ false → b ≡ true
from_not_false true is = refl
from_not_false false is = absurd (let no : ⊥ = cc in no)

-- the names that a law is about are those of which each is taken once
each_distinct : (names : List (List ℕ)) → All (Contains names) (distinct names)
each_distinct names = All-distinct (Contains names) [] names (All-contains_itself names)

-- ---- names that no build file sets

module _ (l : Loaded) (r : Role) (meant : CallName) (names : List (List ℕ)) (known : setters_known l ≡ true) where
  abbrev setters : List HeldCall
  setters = calls_held l (codes "set_variable")

  abbrev named : List HeldCall
  named = calls_named l r meant

  unset_said : (x : List ℕ) → Contains names x → is_set setters (notes (project l)) x ≡ false → (c : HeldCall) → Contains named c
      → IsUnset l r meant names (call_note (unset_words x) c)
  unset_said x written unset c called =
      let parts = or_parts (list_any (λ n. assigns x n.it) (notes (project l))) (names_one x setters) unset in
      record {
        name = x;
        is_written = written;
        all_known = known;
        not_assigned = none_pass (λ n. assigns x n.it) (notes (project l)) parts.0;
        not_named = parts.1;
        call = c;
        is_called = called;
        is_said = refl;
      }

  unset_of : (x : List ℕ) → Contains names x → All (IsUnset l r meant names) (unset_note named setters (notes (project l)) x)
  unset_of x written = go (is_set setters (notes (project l)) x) refl
    where
      go : (b : Bool) → is_set setters (notes (project l)) x ≡ b → All (IsUnset l r meant names) (if b then [] else map (call_note (unset_words x)) named)
      go true is = All-nil (IsUnset l r meant names)
      go false is =
          All-map (IsUnset l r meant names) (call_note (unset_words x)) named
          (All-weaker (Contains named) (λ c. IsUnset l r meant names (call_note (unset_words x) c)) (unset_said x written is) named (All-contains_itself named))

  pub unset_at_all : All (IsUnset l r meant names) (unset_at l r meant (take 100 (distinct names)))
  unset_at_all =
      All-made (IsUnset l r meant names) (unset_note named setters (notes (project l))) (Contains names) (take 100 (distinct names))
      (All-take (Contains names) 100 (distinct names) (each_distinct names)) unset_of

unset_among_are : (l : Loaded) (r : Role) (meant : CallName) (names : List (List ℕ)) → All (IsUnset l r meant names) (unset_among l r meant names)
unset_among_are l r meant [] = All-nil (IsUnset l r meant [])
unset_among_are l r meant (x ∷ more) = go (setters_known l) refl
  where
    go : (b : Bool) → setters_known l ≡ b → All (IsUnset l r meant (x ∷ more)) (if b then unset_at l r meant (take 100 (distinct (x ∷ more))) else [])
    go true known = unset_at_all l r meant (x ∷ more) known
    go false known = All-nil (IsUnset l r meant (x ∷ more))

pub unset_are_unset : UnsetAreUnset
unset_are_unset l r meant pairs = unset_among_are l r meant (flat_map (names_in r) pairs)

-- ---- a few notes, and a number

module _ (P : Note → Type 0) where
  pub counted : (what : List ℕ) (n : ℕ) → All (λ m. P m ⊎ IsCount m) (further what n)
  counted what n = go (n == 0)
    where
      go : (b : Bool) → All (λ m. P m ⊎ IsCount m) (if b then [] else plain_note (what ++ (codes ": " ++ decimal n)) ∷ [])
      go true = All-nil (λ m. P m ⊎ IsCount m)
      go false =
          let text = what ++ (codes ": " ++ decimal n) in
          All-cons (λ m. P m ⊎ IsCount m) (plain_note text) [] (inr (record { text = text; is_said = refl })) (All-nil (λ m. P m ⊎ IsCount m))

  pub few_are : (what : List ℕ) (notes : List Note) → All P notes → All (λ m. P m ⊎ IsCount m) (take 5 notes ++ further what (length notes - 5))
  few_are what notes all =
      All-append (λ m. P m ⊎ IsCount m) (take 5 notes) (further what (length notes - 5))
      (All-weaker P (λ m. P m ⊎ IsCount m) (λ m is. inl is) (take 5 notes) (All-take P 5 notes all))
      (counted what (length notes - 5))

-- ---- other targets

module _ (l : Loaded) (meant : CallName) (variables : List (List ℕ)) where
  abbrev IsRead : Spot → Type 0
  IsRead s = (x : List ℕ) × Contains variables x × Contains (reads l x) s

  abbrev named_targets : List HeldCall
  named_targets = calls_named l role.Target meant

  all_read : All IsRead (flat_map (reads l) (distinct variables))
  all_read =
      All-made IsRead (reads l) (Contains variables) (distinct variables) (each_distinct variables)
      (λ x is. All-weaker (Contains (reads l x)) IsRead (λ s at. (x, is, at)) (reads l x) (All-contains_itself (reads l x)))

  module _ (spots : List Spot) (all : All IsRead spots) where
    sharer_said : (c : HeldCall) → Contains (targets_held l) c → is_sharer named_targets spots c ≡ true
        → IsSharer l meant variables (call_note (codes ": it uses the list that is changed too") c)
    sharer_said c target is =
        let parts = and_parts (reads_one spots c) (not (list_any (λ n. is_same n c) named_targets)) is in
        let found = one_passes (λ s. is_inside c s) IsRead spots parts.0 all in
        record {
          call = c;
          is_target = target;
          is_other = none_pass (λ n. is_same n c) named_targets (from_not (list_any (λ n. is_same n c) named_targets) parts.1);
          spot = found.0;
          is_inside = found.1;
          variable = found.2.0;
          is_variable = found.2.1;
          is_read = found.2.2;
          is_said = refl;
        }

    sharers_of : (c : HeldCall) → Contains (targets_held l) c → All (IsSharer l meant variables) (sharer_notes named_targets spots c)
    sharers_of c target = go (is_sharer named_targets spots c) refl
      where
        go : (b : Bool) → is_sharer named_targets spots c ≡ b
            → All (IsSharer l meant variables) (if b then call_note (codes ": it uses the list that is changed too") c ∷ [] else [])
        go true is = All-cons (IsSharer l meant variables) (call_note (codes ": it uses the list that is changed too") c) [] (sharer_said c target is) (All-nil (IsSharer l meant variables))
        go false is = All-nil (IsSharer l meant variables)

    sharers_at_are : All (λ n. IsSharer l meant variables n ⊎ IsCount n) (sharers_at l meant spots)
    sharers_at_are =
        let targets = take 5000 (targets_held l) in
        few_are (IsSharer l meant variables) (codes "further targets that use the list that is changed")
        (flat_map (sharer_notes named_targets spots) targets)
        (All-made (IsSharer l meant variables) (sharer_notes named_targets spots) (Contains (targets_held l)) targets
        (All-take (Contains (targets_held l)) 5000 (targets_held l) (All-contains_itself (targets_held l))) sharers_of)

pub sharers_read : SharersRead
sharers_read l meant [] = All-nil (λ n. IsSharer l meant [] n ⊎ IsCount n)
sharers_read l meant (x ∷ more) =
    let spots = flat_map (reads l) (distinct (x ∷ more)) in
    sharers_at_are l meant (x ∷ more) (take 5000 spots) (All-take (IsRead l meant (x ∷ more)) 5000 spots (all_read l meant (x ∷ more)))

-- ---- variables that are left

module _ (l : Loaded) (meant : CallName) (known : readers_known l ≡ true) where
  abbrev removed : List HeldCall
  removed = calls_named l role.Target meant

  module _ (x : List ℕ) (its : Contains (variables_at l meant) x) (unread : is_read_outside removed (readers l) x (reads l x) ≡ false) where
    left_said : (n : Placed (read.Note Span)) → Contains (notes (project l)) n → (y : List ℕ) (sets : Bool) (e : Expression Span)
        → n.it ≡ an_assignment y sets e → y ≡ x → IsLeft l meant (left_note x n.place.file e)
    left_said n at y sets e is same =
        let parts = or_parts (list_any (λ s. not (is_in_one removed s)) (reads l x)) (names_one x (readers l)) unread in
        record {
          variable = x;
          is_its = its;
          all_known = known;
          not_read =
              All-weaker (λ s. not (is_in_one removed s) ≡ false) (λ s. is_in_one removed s ≡ true) (λ s. from_not_false (is_in_one removed s)) (reads l x)
              (none_pass (λ s. not (is_in_one removed s)) (reads l x) parts.0);
          not_named = parts.1;
          set = n;
          is_there = at;
          was_set = sets;
          value = e;
          is_assignment = is ∙ ap (λ z. an_assignment z sets e) same;
          is_said = refl;
        }

    left_by_is : (n : Placed (read.Note Span)) → Contains (notes (project l)) n → (it : read.Note Span) → n.it ≡ it
        → All (IsLeft l meant) (left_by x n.place.file it)
    left_by_is n at (a_call c) is = All-nil (IsLeft l meant)
    left_by_is n at (a_loop xs) is = All-nil (IsLeft l meant)
    left_by_is n at (an_assignment y sets e) is = go (bytes_eq y x) refl
      where
        go : (b : Bool) → bytes_eq y x ≡ b → All (IsLeft l meant) (if b then left_note x n.place.file e ∷ [] else [])
        go true same = All-cons (IsLeft l meant) (left_note x n.place.file e) [] (left_said n at y sets e is ((bytes_eq-Decides y x).0 same)) (All-nil (IsLeft l meant))
        go false same = All-nil (IsLeft l meant)

    left_in_are : All (IsLeft l meant) (left_in x (notes (project l)))
    left_in_are =
        All-made (IsLeft l meant) (λ n. left_by x n.place.file n.it) (Contains (notes (project l))) (notes (project l)) (All-contains_itself (notes (project l)))
        (λ n at. left_by_is n at n.it refl)

  left_of_are : (x : List ℕ) → Contains (variables_at l meant) x → All (IsLeft l meant) (left_of removed (readers l) (notes (project l)) x (reads l x))
  left_of_are x its = go (is_read_outside removed (readers l) x (reads l x)) refl
    where
      go : (b : Bool) → is_read_outside removed (readers l) x (reads l x) ≡ b → All (IsLeft l meant) (if b then [] else left_in x (notes (project l)))
      go true is = All-nil (IsLeft l meant)
      go false is = left_in_are x its is

  pub few_left_are : All (λ n. IsLeft l meant n ⊎ IsCount n) (few_left (all_left l meant))
  few_left_are =
      let xs = distinct (variables_at l meant) in
      few_are (IsLeft l meant) (codes "further assignments to variables that nothing reads then") (all_left l meant)
      (All-made (IsLeft l meant) (λ x. left_of removed (readers l) (notes (project l)) x (reads l x)) (Contains (variables_at l meant)) xs
      (each_distinct (variables_at l meant)) left_of_are)

pub left_are_unread : LeftAreUnread
left_are_unread l meant = go (readers_known l) refl
  where
    go : (b : Bool) → readers_known l ≡ b → All (λ n. IsLeft l meant n ⊎ IsCount n) (if b then few_left (all_left l meant) else [])
    go true known = few_left_are l meant known
    go false known = All-nil (λ n. IsLeft l meant n ⊎ IsCount n)
