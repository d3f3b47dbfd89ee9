-- Strings come into a list, one after another: the edits may be done, and what else the trees hold stays.
use Rattle.meson_syntax.specs.declared.operator.Bracket.TheVariants as bracket
use Rattle.meson_sources.specs.SourceEdits as edits
use Rattle.meson_lex.specs.declared.kinds.Kind.TheVariants as k
use Rattle.meson_steps.proofs.StepsDoable.{step_doable, text_written}
use Rattle.meson_edit.specs.Places.{Writes, IsWritten}
use Rattle.meson_edit.specs.Sequences.{MayFollow}
use Rattle.meson_edit.proofs.sequences.Deepened.{edits-deepen-by-one}
use Rattle.meson_steps.proofs.ListParts.{array_below}
use Rattle.std.specs.Char.{encode_utf8}
use Rattle.std.proofs.lemmas.Str.{IsUtf8-append}
use Rattle.meson_lex.specs.Bytes.{is_blank, begins}
use Rattle.meson_lex.specs.Items.{Lexeme, joined, IsItem}
use Rattle.meson_lex.specs.Kinds.{IsIdentifier, reserved}
use Rattle.meson_lex.specs.Words.{IsTight}
use Rattle.meson_layout.specs.Pieces.{space}
use Rattle.meson_steps.specs.inside.WrittenValues.{IsSet}
use Rattle.meson_steps.proofs.Spellings.{differs, none_of}
use Rattle.meson_steps.proofs.SetLiterals.{one_set}
use Rattle.meson_steps.proofs.InnerPlaces.{array_container, exchanged_at, inner_place}
use Rattle.meson_sources.proofs.Words.{All, codes, if◌then◌else◌, Ok, option_and_then, option_map, slice_set, [], ap, append-nil, append_assoc, ap₂, arith}
use Rattle.meson_sources.proofs.Words.{Bool, drop, false, IsUtf8, length, length-append, List, Option, refl, Some, subst, suc, sym, take, true, zero, ℕ, ◌++◌}
use Rattle.meson_sources.proofs.Words.{◌+◌, ◌∙◌, ◌∷◌, ◌≡◌, ◌≤◌, All-head, All-set, All-tail, literal, argument_words, expression_words, file_depth, LevelFile}
use Rattle.meson_sources.proofs.Words.{holds_pairs, holds_values, list_at, ListAt, nth, value_of, Argument, arguments_of, Expression, Listing, listing, named}
use Rattle.meson_sources.proofs.Words.{Nowhere, pair, Plain, plain, some-injective, and-then-some, list-fits, map-some, After, array_of, Edit, edited}
use Rattle.meson_sources.proofs.Words.{edited_elements, edited_list, element_added, elements, exchanged, First, is_empty, with_elements, with_value, Wrap}
use Rattle.meson_sources.proofs.Words.{Written, lists-stay, insertions-keep-levels, wraps-keep-levels, child, CallRef, AreDoable, MayStandBetween, none}
use Rattle.meson_sources.proofs.Words.{all_stepped, step_in, stepped, string_of, written_texts, edited_there, elements_back, elements_with, grown_behind}
use Rattle.meson_sources.proofs.Words.{grown_first, nth_inserted, Room, there_again, all_nth, change_made, changed_there, array_holding, elements_found}
use Rattle.meson_sources.proofs.Words.{OnlyList, strings, array_with, extra_key, insertion_steps, written_keyword, written_source}

-- ==== Strings may be put into a list, one after another.

-- a tree that is no deeper stands too
grown_stands : (t now : Plain) → MayStandBetween t → LevelFile now → file_depth now ≤ file_depth t → MayStandBetween now
grown_stands t now stands level depth = let was = stands.1 in (level, omega (arith, was, depth))

-- strings behind an element without a name
pub behind_doable : (list : CallRef) (names : List (List ℕ)) → All IsUtf8 names → (n : ℕ) (trees : List Plain) (t : Plain) → nth trees list.file ≡ Some t → All MayStandBetween trees → Room t list.path.steps n
    → AreDoable (insertion_steps list (suc n) names) trees
behind_doable list [] utf8 n trees t is all room = none trees
behind_doable list (name ∷ names) utf8 n trees t is all room =
    let stands = all_nth MayStandBetween trees list.file t all is in
    let path = list.path.steps in
    let g = grown_behind t path stands.0 (literal name) (string_of name) tt refl n room in
    let now_stands = grown_stands t g.now stands g.level g.depth in
    step_doable (step_in list (After path n (written_source name))) (insertion_steps list (suc (suc n)) names) trees t g.now is g.is (text_written name (All-head IsUtf8 name names utf8)) all now_stands
    (behind_doable list names (All-tail IsUtf8 name names utf8) (suc n) (slice_set trees list.file g.now) g.now (changed_there trees list.file t g.now is) (All-set MayStandBetween trees list.file g.now now_stands all) g.room)

-- strings in a list that holds nothing
pub first_doable : (list : CallRef) (names : List (List ℕ)) → All IsUtf8 names → (trees : List Plain) (t : Plain) → nth trees list.file ≡ Some t → All MayStandBetween trees
    → (q : ListAt Nowhere) → list_at t list.path.steps ≡ Some q → holds_values q.bracket ≡ true → elements q.list ≡ [] → AreDoable (insertion_steps list 0 names) trees
first_doable list [] utf8 trees t is all q is_q holds empty = none trees
first_doable list (name ∷ names) utf8 trees t is all q is_q holds empty =
    let stands = all_nth MayStandBetween trees list.file t all is in
    let path = list.path.steps in
    let g = grown_first t path stands.0 (literal name) (string_of name) tt refl q is_q holds empty in
    let now_stands = grown_stands t g.now stands g.level g.depth in
    step_doable (step_in list (First path (written_source name))) (insertion_steps list 1 names) trees t g.now is g.is (text_written name (All-head IsUtf8 name names utf8)) all now_stands
    (behind_doable list names (All-tail IsUtf8 name names utf8) 0 (slice_set trees list.file g.now) g.now (changed_there trees list.file t g.now is) (All-set MayStandBetween trees list.file g.now now_stands all) g.room)

-- ==== A new list in a call, and a lone value in its array: strings may be put behind the first.

-- ---- elements

pub last_there : {A : Type 0} (xs : List A) (m : ℕ) → length xs ≡ suc m → (x : A) × (nth xs m ≡ Some x) × (drop (suc m) xs ≡ [])
last_there [] m many = absurd (omega (arith, many))
last_there (x ∷ []) zero many = (x, refl, refl)
last_there (x ∷ y ∷ xs) zero many = absurd (omega (arith, many))
last_there (x ∷ xs) (suc m) many = let fewer : length xs ≡ suc m = omega (arith, many) in last_there xs m fewer

nth_put : {A : Type 0} (xs : List A) (n : ℕ) (it a : A) → nth xs n ≡ Some it → nth (take n xs ++ a ∷ drop (suc n) xs) n ≡ Some a
nth_put [] n it a is = absurd cc
nth_put (x ∷ xs) zero it a is = refl
nth_put (x ∷ xs) (suc n) it a is = nth_put xs n it a is

pub value_put : (a : Argument Nowhere) (v w : Expression Nowhere) → value_of a ≡ Some v → value_of (with_value w a) ≡ Some w
value_put (plain e) v w is = refl
value_put (named s x e) v w is = refl
value_put (pair s e f) v w is = refl

-- ---- one tree

-- a tree after an edit that leaves an array of one element as the value of element n of a list
pub record Arrayed (t : Plain) (path : List ℕ) (n : ℕ) (e : Edit) : Type 0 where
  pub now : Plain
  pub is : edited e t ≡ Some now
  pub level : LevelFile now
  pub depth : file_depth now ≤ file_depth t + 1
  pub room : Room now (path ++ n ∷ []) 0

module _ (t : Plain) (path : List ℕ) (q : ListAt Nowhere) (is_q : list_at t path ≡ Some q) (level : LevelFile t) where
  -- an array of one element is there as the value of an element
  array_room : (xs : List (Argument Nowhere)) (n : ℕ) (a : Argument Nowhere) (e : Expression Nowhere) → LevelFile (q.back (with_elements q.list xs)) → nth xs n ≡ Some a → value_of a ≡ Some (array_of e)
      → holds_pairs q.bracket ≡ false → Room (q.back (with_elements q.list xs)) (path ++ n ∷ []) 0
  array_room xs n a e low is value no_pairs =
      let now = q.back (with_elements q.list xs) in
      let again = there_again t path q is_q xs in
      let here : nth (elements again.there.list) n ≡ Some a = ap (λ l. nth (elements l) n) again.list ∙ ap (λ l. nth l n) (elements_with q.list xs) ∙ is in
      let l = array_below Nowhere now path again.there again.is_there (ap holds_pairs again.bracket ∙ no_pairs) low n a (listing tt false (arguments_of (plain e ∷ []))) here value in
      record { place = l.place; is_place = l.is_place; it = plain e; is_it = ap (λ m. nth (elements m) 0) l.list; no_name = refl; holds = ap holds_values l.bracket }

  pub keyword_grown : q.bracket ≡ bracket.Round → (m : ℕ) → length (elements q.list) ≡ suc m → (name : List ℕ) → Arrayed t path (suc m) (After path m (written_keyword name))
  keyword_grown round m many name =
      let last = last_there (elements q.list) m many in
      let new = written_keyword name in
      let xs = element_added m new.node (elements q.list) last.0 in
      let now = q.back (with_elements q.list xs) in
      let is : edited (After path m new) t ≡ Some now = edited_there t path q is_q (After path m new) xs (ap (option_map (element_added m new.node (elements q.list))) last.1) in
      let follows : MayFollow bracket.Round last.0 (drop (suc m) (elements q.list)) new.node = (last.2, (tt, ((refl, refl, tt), tt))) in
      let low = insertions-keep-levels path m new t now q is_q last.0 last.1 (subst (λ b. MayFollow b last.0 (drop (suc m) (elements q.list)) new.node) (sym round) follows) level is in
      record {
        now = now;
        is = is;
        level = low;
        depth = edits-deepen-by-one (After path m new) path refl (omega arith) t now is;
        room = array_room xs (suc m) new.node (string_of name) low (nth_inserted (elements q.list) m last.0 new.node last.1) refl (ap holds_pairs round);
      }

  pub wrapped_grown : holds_pairs q.bracket ≡ false → (n : ℕ) (a : Argument Nowhere) (v : Expression Nowhere) → nth (elements q.list) n ≡ Some a → value_of a ≡ Some v → Arrayed t path n (Wrap path n)
  wrapped_grown no_pairs n a v there value =
      let put = with_value (array_of v) a in
      let xs = take n (elements q.list) ++ put ∷ drop (suc n) (elements q.list) in
      let now = q.back (with_elements q.list xs) in
      let made = ap (option_and_then (exchanged n array_of (elements q.list))) there ∙ ap (option_map (λ w. take n (elements q.list) ++ with_value (array_of w) a ∷ drop (suc n) (elements q.list))) value in
      let is : edited (Wrap path n) t ≡ Some now = edited_there t path q is_q (Wrap path n) xs made in
      let low = wraps-keep-levels path n t now level is in
      record {
        now = now;
        is = is;
        level = low;
        depth = edits-deepen-by-one (Wrap path n) path refl (omega arith) t now is;
        room = array_room xs n put v low (nth_put (elements q.list) n a put there) (value_put a v (array_of v) value) no_pairs;
      }

-- ---- trees of a project

-- the first step makes an array of one element, the others put strings behind that
pub array_doable : (c : CallRef) (n : ℕ) (e : Edit) (names : List (List ℕ)) → All IsUtf8 names → (trees : List Plain) (t : Plain) → nth trees c.file ≡ Some t → All MayStandBetween trees → file_depth t ≤ 64
    → Writes e → Arrayed t c.path.steps n e → AreDoable (step_in c e ∷ edits.insertion_steps (child c n) 1 names) trees
array_doable c n e names utf8 trees t is all shallow writes g =
    let deep = g.depth in
    let now_stands : MayStandBetween g.now = (g.level, omega (arith, shallow, deep)) in
    step_doable (step_in c e) (edits.insertion_steps (child c n) 1 names) trees t g.now is g.is writes all now_stands
    (behind_doable (child c n) names utf8 0 (slice_set trees c.file g.now) g.now (changed_there trees c.file t g.now is) (All-set MayStandBetween trees c.file g.now now_stands all) g.room)

-- ==== What is written for a new list of extra files: `extra_files: ['NAME']` spells its argument.

-- ---- the array

abbrev array_bytes : List ℕ → List ℕ
array_bytes name = 91 ∷ (literal name ++ 93 ∷ [])

pub array_written : (name : List ℕ) → IsUtf8 name → IsWritten (array_bytes name) (expression_words (array_with name))
array_written name utf8 =
    let s : IsSet (Ok (written_texts (name ∷ []))) (array_bytes name) = one_set name (Ok (array_bytes name)) refl utf8 in
    let same : written_texts (name ∷ []) ≡ record { bytes = array_bytes name; node = s.new.node } = cc in
    let node : array_with name ≡ s.new.node = ap (λ (w : Written (Expression Nowhere)). w.node) same in
    subst (λ e. IsWritten (array_bytes name) (expression_words e)) (sym node) s.new.writes

-- ---- the keyword before it

key_identifier : IsIdentifier extra_key
key_identifier = ((refl, refl), none_of reserved extra_key refl)

abbrev key_item : Lexeme
key_item = record { kind = k.Identifier; text = extra_key }

abbrev colon_item : Lexeme
colon_item = record { kind = k.Colon; text = 58 ∷ [] }

key_text : IsUtf8 (codes "extra_files: ")
unfolding encode_utf8
key_text = (codes "extra_files: ", (refl, refl))

key_stands : (rest : List ℕ) → IsItem key_item (58 ∷ rest)
key_stands rest = (key_identifier, refl, (refl, λ same. absurd (differs extra_key (codes "f") refl same)))

pub keyword_written : (name : List ℕ) → IsUtf8 name → IsWritten (written_keyword name).bytes (argument_words (written_keyword name).node)
keyword_written name utf8 =
    let w = array_written name utf8 in
    let t : IsTight w.items = w.is_new.tight in
    let joins : joined w.items ≡ array_bytes name = w.is_new.are_items.joins in
    let blank : begins is_blank (joined w.items ++ []) ≡ false = ap (λ bytes. begins is_blank (bytes ++ [])) joins in
    record {
      items = key_item ∷ colon_item ∷ space ∷ w.items;
      is_new = record {
        are_items = record {
          joins = ap (λ bytes. codes "extra_files: " ++ bytes) joins;
          each = (key_stands (32 ∷ (joined w.items ++ [])), ((refl, refl, tt), (((refl, refl), refl, blank), w.is_new.are_items.each)));
        };
        tight = record {
          first = key_item;
          more = colon_item ∷ space ∷ w.items;
          begins = refl;
          first_speaks = refl;
          front = key_item ∷ colon_item ∷ space ∷ t.front;
          last = t.last;
          ends = ap (λ l. key_item ∷ colon_item ∷ space ∷ l) t.ends;
          last_speaks = t.last_speaks;
        };
        no_remarks = w.is_new.no_remarks;
      };
      is_words = ap (λ l. (k.Identifier, extra_key) ∷ (k.Colon, []) ∷ l) w.is_words;
      utf8 = IsUtf8-append (codes "extra_files: ") (array_bytes name) key_text w.utf8;
    }

-- ==== Edits of one list, one after another: of the trees nothing but that list becomes another one.

module _ (c : CallRef) where
  abbrev path : List ℕ
  path = c.path.steps

  -- nothing has changed
  pub unchanged : (trees : List Plain) (xs : List (Argument Nowhere)) → elements_found c trees ≡ Some xs → OnlyList c trees trees
  unchanged trees xs is =
      let t = and-then-some (λ u. option_map (λ (l : ListAt Nowhere). elements l.list) (list_at u path)) (nth trees c.file) xs is in
      let p = map-some (λ (l : ListAt Nowhere). elements l.list) (list_at t.0 path) xs t.2 in
      record {
        tree = t.0;
        was = t.1;
        place = p.0;
        is_place = p.1;
        other = p.0.list;
        now = t.1 ∙ ap Some (sym (list-fits Nowhere t.0 path p.0 p.1).same);
        others = λ i other. refl;
      }

  -- one change after another
  pub both_only : (trees between after : List Plain) → OnlyList c trees between → OnlyList c between after → OnlyList c trees after
  both_only trees between after a b =
      let same : a.place.back a.other ≡ b.tree = some-injective _ _ (sym a.now ∙ b.was) in
      let again = lists-stay a.tree path a.place a.is_place a.other in
      let there : again.there ≡ b.place = some-injective _ _ (sym again.is_there ∙ ap (λ t. list_at t path) same ∙ b.is_place) in
      record {
        tree = a.tree;
        was = a.was;
        place = a.place;
        is_place = a.is_place;
        other = b.other;
        now = b.now ∙ ap (λ (q : ListAt Nowhere). Some (q.back b.other)) (sym there) ∙ ap Some (again.back b.other);
        others = λ i other. b.others i other ∙ a.others i other;
      }

  pub edit_only : (e : Edit) → ((t : Plain) → edited e t ≡ edited_list e path t) → (trees between : List Plain) → stepped (step_in c e) trees ≡ Some between → OnlyList c trees between
  edit_only e of_list trees between made =
      let m = change_made c.file (edited e) trees between made in
      let p = and-then-some (λ q. option_map (λ l. q.back (with_elements q.list l)) (edited_elements e (elements q.list))) (list_at m.old path) m.new (sym (of_list m.old) ∙ m.is) in
      let y = map-some (λ l. p.0.back (with_elements p.0.list l)) (edited_elements e (elements p.0.list)) m.new p.2 in
      record { tree = m.old; was = m.was; place = p.0; is_place = p.1; other = with_elements p.0.list y.0; now = m.now ∙ ap Some (sym y.2); others = m.others }

  -- strings that come one behind the other
  pub inserted_only : (names : List (List ℕ)) (n : ℕ) (first trees after : List Plain) → OnlyList c first trees → all_stepped (edits.insertion_steps c n names) trees ≡ Some after → OnlyList c first after
  inserted_only [] n first trees after only made = subst (OnlyList c first) (some-injective _ _ made) only
  inserted_only (name ∷ more) zero first trees after only made =
      let e = First path (written_source name) in
      let s = and-then-some (all_stepped (edits.insertion_steps c 1 more)) (stepped (step_in c e) trees) after made in
      inserted_only more 1 first s.0 after (both_only first trees s.0 only (edit_only e (λ t. refl) trees s.0 s.1)) s.2
  inserted_only (name ∷ more) (suc n) first trees after only made =
      let e = After path n (written_source name) in
      let s = and-then-some (all_stepped (edits.insertion_steps c (suc (suc n)) more)) (stepped (step_in c e) trees) after made in
      inserted_only more (suc (suc n)) first s.0 after (both_only first trees s.0 only (edit_only e (λ t. refl) trees s.0 s.1)) s.2

-- ==== An argument of a call that is an array gets strings, one behind the other, and the call's other arguments stay.

-- ---- lists

pub nth_seam : {A : Type 0} (front : List A) (x : A) (back : List A) (n : ℕ) → n ≡ length front → nth (front ++ x ∷ back) n ≡ Some x
nth_seam {A = A} front x back n is = ap (nth (front ++ x ∷ back)) is ∙ at front where
  at : (ys : List A) → nth (ys ++ x ∷ back) (length ys) ≡ Some x
  at [] = refl
  at (y ∷ ys) = at ys

take_seam : {A : Type 0} (front : List A) (back : List A) → take (length front) (front ++ back) ≡ front
take_seam [] back = refl
take_seam (x ∷ front) back = ap (λ l. x ∷ l) (take_seam front back)

drop_seam : {A : Type 0} (front : List A) (x : A) (back : List A) → drop (suc (length front)) (front ++ x ∷ back) ≡ back
drop_seam [] x back = refl
drop_seam (y ∷ front) x back = drop_seam front x back

-- another value in the place of one
pub other_there : {A : Type 0} (front : List A) (x y : A) (back : List A) (n : ℕ) → n ≡ length front → take n (front ++ x ∷ back) ++ y ∷ drop (suc n) (front ++ x ∷ back) ≡ front ++ y ∷ back
other_there front x y back n is =
    ap (λ m. take m (front ++ x ∷ back) ++ y ∷ drop (suc m) (front ++ x ∷ back)) is ∙ ap₂ (λ l m. l ++ y ∷ m) (take_seam front (x ∷ back)) (drop_seam front x back)

all_taken : {A : Type 0} (xs : List A) (k : ℕ) → length xs ≡ suc k → (take (suc k) xs ≡ xs) × (drop (suc k) xs ≡ [])
all_taken [] k many = absurd (omega (arith, many))
all_taken (x ∷ []) zero many = (refl, refl)
all_taken (x ∷ y ∷ xs) zero many = absurd (omega (arith, many))
all_taken (x ∷ xs) (suc k) many = let fewer : length xs ≡ suc k = omega (arith, many) in let r = all_taken xs k fewer in (ap (λ l. x ∷ l) r.0, r.1)

-- behind the last element
pub put_last : (xs : List (Argument Nowhere)) (k : ℕ) (new it : Argument Nowhere) → length xs ≡ suc k → element_added k new xs it ≡ xs ++ new ∷ []
put_last xs k new it many = let r = all_taken xs k many in ap₂ (λ l m. l ++ new ∷ m) r.0 r.1

-- ---- values

put_twice : (a : Argument Nowhere) (v w : Expression Nowhere) → with_value w (with_value v a) ≡ with_value w a
put_twice (plain e) v w = refl
put_twice (named s x e) v w = refl
put_twice (pair s e f) v w = refl

no_comma : (b : Bool) → (if b then false else false) ≡ false
no_comma true = refl
no_comma false = refl

abbrev list_holding : List (Argument Nowhere) → Listing Nowhere
list_holding xs = listing tt false (arguments_of xs)

held_with : (xs ys : List (Argument Nowhere)) → with_elements (list_holding xs) ys ≡ list_holding ys
held_with xs ys = ap (λ t. listing tt t (arguments_of ys)) (no_comma (is_empty ys))

-- ---- a call of which one argument is an array

module _ (c : CallRef) (n : ℕ) (a : Argument Nowhere) (v : Expression Nowhere) (is_value : value_of a ≡ Some v) (front back : List (Argument Nowhere)) (is_number : n ≡ length front) (first : List Plain) where
  abbrev list_path : List ℕ
  list_path = c.path.steps

  abbrev inner : List ℕ
  inner = list_path ++ n ∷ []

  abbrev arguments : List (Argument Nowhere) → List (Argument Nowhere)
  arguments xs = front ++ with_value (array_holding xs) a ∷ back

  pub record Holding (xs : List (Argument Nowhere)) (trees : List Plain) : Type 0 where
    pub tree : Plain
    pub is_tree : nth trees c.file ≡ Some tree
    pub level : LevelFile tree
    pub place : ListAt Nowhere
    pub is_place : list_at tree list_path ≡ Some place
    pub no_pairs : holds_pairs place.bracket ≡ false
    pub are : elements place.list ≡ arguments xs
    -- all else is as it was in the first trees
    pub only : OnlyList c first trees

  pub arguments_are : (xs : List (Argument Nowhere)) (trees : List Plain) → Holding xs trees → elements_found c trees ≡ Some (arguments xs)
  arguments_are xs trees h =
      ap (λ o. option_and_then (λ t. option_map (λ (l : ListAt Nowhere). elements l.list) (list_at t list_path)) o) h.is_tree ∙ ap (option_map (λ (l : ListAt Nowhere). elements l.list)) h.is_place ∙ ap Some h.are

  one_more : (xs : List (Argument Nowhere)) (k : ℕ) (name : List ℕ) (trees between : List Plain) → length xs ≡ suc k → Holding xs trees → stepped (step_in (child c n) (After inner k (written_source name))) trees ≡ Some between
      → Holding (xs ++ (written_source name).node ∷ []) between
  one_more xs k name trees between many h made =
      let new = written_source name in
      let old = with_value (array_holding xs) a in
      let p = inner_place array_container h.tree list_path h.place h.is_place h.no_pairs h.level n old (list_holding xs) (ap (λ l. nth l n) h.are ∙ nth_seam front old back n is_number) (value_put a v (array_holding xs) is_value) in
      let r = p.place in
      let m = change_made c.file (edited (After inner k new)) trees between made in
      let same_tree : m.old ≡ h.tree = some-injective _ _ (sym m.was ∙ h.is_tree) in
      let is : edited (After inner k new) h.tree ≡ Some m.new = ap (edited (After inner k new)) (sym same_tree) ∙ m.is in
      let change : ListAt Nowhere → Option Plain = λ q. option_map (λ l. q.back (with_elements q.list l)) (edited_elements (After inner k new) (elements q.list)) in
      let y = map-some (λ l. r.back (with_elements r.list l)) (edited_elements (After inner k new) (elements r.list)) m.new (sym (ap (option_and_then change) p.is_place) ∙ is) in
      let e = map-some (element_added k new.node (elements r.list)) (nth (elements r.list) k) y.0 y.1 in
      let held : elements r.list ≡ xs = ap elements p.list ∙ elements_back xs in
      let more = xs ++ new.node ∷ [] in
      let ys_are : y.0 ≡ more = sym e.2 ∙ ap (λ l. element_added k new.node l e.0) held ∙ put_last xs k new.node e.0 many in
      let outer = exchanged_at n old (elements h.place.list) (array_holding more) in
      let lists : with_elements r.list y.0 ≡ list_holding more = ap₂ with_elements p.list ys_are ∙ held_with xs more in
      let now : h.place.back (with_elements h.place.list outer) ≡ m.new =
      sym (p.back (list_holding more)) ∙ ap r.back (sym lists) ∙ y.2 in
      let again = there_again h.tree list_path h.place h.is_place outer in
      let follows : MayFollow r.bracket e.0 (drop (suc k) (elements r.list)) new.node = subst (λ b. MayFollow b e.0 (drop (suc k) (elements r.list)) new.node) (sym p.bracket) tt in
      record {
        tree = m.new;
        is_tree = m.now;
        level = insertions-keep-levels inner k new h.tree m.new r p.is_place e.0 e.1 follows h.level is;
        place = again.there;
        is_place = ap (λ t. list_at t list_path) (sym now) ∙ again.is_there;
        no_pairs = ap holds_pairs again.bracket ∙ h.no_pairs;
        are =
            ap elements again.list ∙ elements_with h.place.list outer ∙ ap (λ l. exchanged_at n old l (array_holding more)) h.are
            ∙ other_there front old (with_value (array_holding more) old) back n is_number ∙ ap (λ z. front ++ z ∷ back) (put_twice a (array_holding xs) (array_holding more));
        only =
            both_only c first trees between h.only
            (record { tree = h.tree; was = h.is_tree; place = h.place; is_place = h.is_place; other = with_elements h.place.list outer; now = m.now ∙ ap Some (sym now); others = m.others });
      }

  pub all_more : (names : List (List ℕ)) (xs : List (Argument Nowhere)) (k : ℕ) (trees after : List Plain) → length xs ≡ suc k → Holding xs trees → all_stepped (edits.insertion_steps (child c n) (suc k) names) trees ≡ Some after
      → Holding (xs ++ strings names) after
  all_more [] xs k trees after many h made = subst (λ l. Holding l after) (sym (append-nil xs)) (subst (Holding xs) (some-injective _ _ made) h)
  all_more (name ∷ more) xs k trees after many h made =
      let new = (written_source name).node in
      let s = and-then-some (all_stepped (edits.insertion_steps (child c n) (suc (suc k)) more)) (stepped (step_in (child c n) (After inner k (written_source name))) trees) after made in
      let longer : length (xs ++ new ∷ []) ≡ suc (suc k) = omega (arith, length-append xs (new ∷ []), many) in
      subst (λ l. Holding l after) (append_assoc xs (new ∷ []) (strings more))
      (all_more more (xs ++ new ∷ []) (suc k) s.0 after longer (one_more xs k name trees s.0 many h s.1) s.2)
