-- The files of a target of either kind, and what an addition or a removal makes of them.
use Rattle.meson_syntax.specs.declared.operator.Bracket.TheVariants as bracket
use Rattle.meson_sources.proofs.met.Arguments as extra
use Rattle.meson_variables.specs.declared.source.Sources as found
use Rattle.meson_sources.proofs.Words.{cons_option, filter, bytes_eq, if◌then◌else◌, not, Ok, option_and_then, option_map, [], ap, append-nil, ap₂, arith, Bool}
use Rattle.meson_sources.proofs.Words.{false, length, List, map, None, Option, refl, Some, subst, suc, sym, true, ℕ, ◌++◌, ◌+◌, ◌∙◌, ◌∷◌, ◌≡◌, ◌≤◌, map-append}
use Rattle.meson_sources.proofs.Words.{Span, arguments_parts, LevelArguments, argument, Arguments, erase_arguments, erase_expression, Expression, named}
use Rattle.meson_sources.proofs.Words.{no_arguments, Nowhere, pair, plain, some-injective, Every, every-append, Call, call_of, Numbered, Loaded, project}
use Rattle.meson_sources.proofs.Words.{kwargs_key, once, rest, sources_key, child, Placed, placed, Project, one_of, CallRef, once_few, both_expanded, empty}
use Rattle.meson_sources.proofs.Words.{expand, Expansion, fixed, in_list, Item, known, Mark, max_followed, opaque, Slot, then_expand, expand_arguments}
use Rattle.meson_sources.proofs.Words.{first_empty, first_list, hidden, items, list_of_slot, opaque_count, or_option, source_item, source_marks, sources}
use Rattle.meson_sources.proofs.Words.{sources_of_call, sources_of_marks, SourceItem, plain_trees, extra_files, extra_of_call, extra_key, extra_marks, Reading}
use Rattle.meson_sources.proofs.Words.{source_texts, TextsCome}
use Rattle.meson_sources.proofs.gone.Marks.{Left, head_by, item_left, left_append, left_of, slot_gone}
use Rattle.meson_sources.proofs.met.Arguments.{keyed, keys, list_with, plains, whole, key_bare, key_count, key_length}
use Rattle.meson_sources.proofs.met.Marks.{bare_mark, bare, both_bare, expand_with, expand_bare, values_of, mark_contents, contents_append, contents_bare}
use Rattle.meson_sources.proofs.met.Marks.{contents_texts, contents_unknown}
use Rattle.meson_sources.proofs.met.Outcomes.{gist, Clear, gist_append, Grows, grows_first, texts_are, texts_come, unknown_is, as_unknown, moved}
use Rattle.meson_sources.proofs.trees.Calls.{CallIn, bare_arguments, called, CallNode, call_again}
use Rattle.meson_sources.proofs.trees.Places.{IsIt}
use Rattle.meson_sources.proofs.trees.Skeletons.{blanks}

-- ==== All sources of a call: without spans, and in which lists they are met.

abbrev pub bare_number : Numbered (Expression Span) → Numbered (Expression Nowhere)
bare_number a = record { number = a.number; value = erase_expression a.value }

plains_bare : (k : ℕ) (xs : Arguments Span) → plains k (erase_arguments xs) ≡ map bare_number (plains k xs)
plains_bare k no_arguments = refl
plains_bare k (argument (plain e) more) = ap (λ l. record { number = k; value = erase_expression e } ∷ l) (plains_bare (k + 1) more)
plains_bare k (argument (named s x e) more) = plains_bare (k + 1) more
plains_bare k (argument (pair s e f) more) = plains_bare (k + 1) more

one_bare : (z : Bool) (k : ℕ) (e : Expression Span) (more : List (Numbered (Expression Nowhere))) (more2 : List (Numbered (Expression Span))) → more ≡ map bare_number more2
    → cons_option (option_map (λ y. record { number = k; value = y }) (if z then Some (erase_expression e) else None)) more ≡ map bare_number (cons_option (option_map (λ y. record { number = k; value = y }) (if z then Some e else None)) more2)
one_bare true k e more more2 is = ap (λ l. record { number = k; value = erase_expression e } ∷ l) is
one_bare false k e more more2 is = is

pub keyed_bare : (key : List ℕ) (k : ℕ) (xs : Arguments Span) → keyed key k (erase_arguments xs) ≡ map bare_number (keyed key k xs)
keyed_bare key k no_arguments = refl
keyed_bare key k (argument (plain e) more) = keyed_bare key (k + 1) more
keyed_bare key k (argument (named s x e) more) = one_bare (bytes_eq x.text key) k e (keyed key (k + 1) (erase_arguments more)) (keyed key (k + 1) more) (keyed_bare key (k + 1) more)
keyed_bare key k (argument (pair s e f) more) = keyed_bare key (k + 1) more

rest_map : {X Y : Type 0} (f : X → Y) (xs : List X) → rest (map f xs) ≡ map f (rest xs)
rest_map f [] = refl
rest_map f (x ∷ xs) = refl

module _ (p : Project Span) (c : CallRef) where
  pub list_bare : (slot : ℕ → Slot) (list : List (Numbered (Expression Span))) (f : List (List ℕ)) → list_with (expand_with (values_of p) max_followed) c slot (map bare_number list) f ≡ bare (expand_arguments p c slot list f)
  list_bare slot [] f = refl
  list_bare slot (a ∷ more) f =
      let first = expand p max_followed a.value (record { place = child c a.number; slot = slot a.number; variable = None }) f in
      ap (λ (x : Expansion Nowhere). both_expanded x (list_with (expand_with (values_of p) max_followed) c slot (map bare_number more) x.followed)) (expand_bare p max_followed a.value (record { place = child c a.number; slot = slot a.number; variable = None }) f)
      ∙ ap (both_expanded (bare first)) (list_bare slot more first.followed) ∙ both_bare first _

  pub whole_bare : (xs : Arguments Span) → whole (expand_with (values_of p) max_followed) c (erase_arguments xs) []
      ≡ bare (then_expand (expand_arguments p c (in_list c) (rest (plains 0 xs)) []) (λ now. expand_arguments p c (λ n. fixed) (keys 0 xs) now))
  whole_bare xs =
      let first = expand_arguments p c (in_list c) (rest (plains 0 xs)) [] in
      ap (λ (x : Expansion Nowhere). both_expanded x (list_with (expand_with (values_of p) max_followed) c (λ n. fixed) (keys 0 (erase_arguments xs)) x.followed))
      (ap (λ l. list_with (expand_with (values_of p) max_followed) c (in_list c) (rest l) []) (plains_bare 0 xs) ∙ ap (λ l. list_with (expand_with (values_of p) max_followed) c (in_list c) l []) (rest_map bare_number (plains 0 xs)) ∙ list_bare (in_list c) (rest (plains 0 xs)) [])
      ∙ ap (both_expanded (bare first)) (ap (λ l. list_with (expand_with (values_of p) max_followed) c (λ n. fixed) l first.followed) (keyed_bare sources_key 0 xs) ∙ list_bare (λ n. fixed) (keys 0 xs) first.followed)
      ∙ both_bare first _

-- ---- marks without spans

pub gist_bare : {S : Type 0} (ms : List (Mark S)) → gist (map bare_mark ms) ≡ gist ms
gist_bare [] = refl
gist_bare (known i ∷ ms) = ap (λ l. Some i.text ∷ l) (gist_bare ms)
gist_bare (opaque ∷ ms) = ap (λ l. None ∷ l) (gist_bare ms)
gist_bare (empty p ∷ ms) = gist_bare ms

module _ (new : List (List ℕ)) (seen : List (List ℕ) → Bool) (h : CallRef) where
  abbrev AllClear : List (Mark Nowhere) → Type 0
  AllClear ms = Every (Clear new (IsIt h) seen) ms

  not_listed : {S : Type 0} (ms : List (Mark S)) → AllClear (map bare_mark ms) → first_list ms ≡ Some h → ⊥
  not_listed [] all is = cc
  not_listed (known i ∷ ms) all is = go i.slot all.0 is (not_listed ms all.1)
    where
      go : (slot : Slot) → ((q : CallRef) → list_of_slot slot ≡ Some q → q ≡ h → ⊥) → or_option (list_of_slot slot) (first_list ms) ≡ Some h → (first_list ms ≡ Some h → ⊥) → ⊥
      go (in_list q n) clear found more = clear q refl (some-injective q h found)
      go fixed clear found more = more found
  not_listed (opaque ∷ ms) all is = not_listed ms all.1 is
  not_listed (empty p ∷ ms) all is = not_listed ms all.1 is

  not_empty : {S : Type 0} (ms : List (Mark S)) → AllClear (map bare_mark ms) → first_empty ms ≡ Some h → ⊥
  not_empty [] all is = cc
  not_empty (known i ∷ ms) all is = not_empty ms all.1 is
  not_empty (opaque ∷ ms) all is = not_empty ms all.1 is
  not_empty (empty p ∷ ms) all is = all.0 p refl (some-injective p h is)

  -- a list that holds none of the files is not where further ones go
  pub no_home : {S : Type 0} (ms : List (Mark S)) → AllClear (map bare_mark ms) → or_option (first_list ms) (first_empty ms) ≡ Some h → ⊥
  no_home ms all is = go (first_list ms) (first_empty ms) (not_listed ms all) (not_empty ms all) is
    where
      go : (o u : Option CallRef) → (o ≡ Some h → ⊥) → (u ≡ Some h → ⊥) → or_option o u ≡ Some h → ⊥
      go (Some q) u one two found = one found
      go None u one two found = two found

-- ---- what may be hidden

pub hidden_clear : {S : Type 0} (new : List (List ℕ)) (seen : List (List ℕ) → Bool) (h : CallRef) (xs : List (Numbered (Expression S))) → Every (Clear new (IsIt h) seen) (map bare_mark (hidden xs))
hidden_clear new seen h [] = tt
hidden_clear new seen h (x ∷ xs) = (λ q is z. absurd cc, tt)

-- ==== The two kinds of files of a target: its sources, and its extra files. Those of either kind are met as the sources of a call.

pub record FileKind : Type 0 where
  pub key : List ℕ
  pub read : Reading
  pub marks : Project Span → Placed (Call Span) → List (Mark Span)
  -- arguments of which these files are the sources
  pub look : Arguments Nowhere → Arguments Nowhere
  -- those that may hide more of them
  pub hide : Arguments Span → List (Numbered (Expression Span))
  pub is_read : (p : Project Span) (c : CallRef) (t : CallIn p c) → read p c ≡ Some (once key (keyed key 0 t.arguments) (sources_of_marks c (marks p (called t))))
  pub are_marks : (p : Project Span) (c : CallRef) (t : CallIn p c)
      → map bare_mark (marks p (called t)) ≡ (whole (expand_with (values_of p) max_followed) c (look (bare_arguments t)) []).marks ++ map bare_mark (hidden (hide t.arguments))
  pub same_parts : (xs : Arguments Nowhere) → arguments_parts (look xs) ≡ arguments_parts xs
  pub same_blanks : (xs ys : Arguments Nowhere) → blanks ys ≡ blanks xs → blanks (look ys) ≡ blanks (look xs)
  pub level : (xs : Arguments Nowhere) → LevelArguments xs bracket.Round false → LevelArguments (look xs) bracket.Round false
  pub hides : (xs ys : Arguments Span) → ((k : List ℕ) → length (keyed k 0 ys) ≡ length (keyed k 0 xs)) → length (hide ys) ≡ length (hide xs)

-- ---- sources

pub source_marks_are : (p : Project Span) (c : CallRef) (t : CallIn p c)
    → map bare_mark (source_marks p (called t)) ≡ (whole (expand_with (values_of p) max_followed) c (bare_arguments t) []).marks ++ map bare_mark (hidden (keyed kwargs_key 0 t.arguments))
source_marks_are p c t =
    let met = then_expand (expand_arguments p c (in_list c) (rest (plains 0 t.arguments)) []) (λ now. expand_arguments p c (λ n. fixed) (keys 0 t.arguments) now) in
    map-append bare_mark met.marks (hidden (keyed kwargs_key 0 t.arguments)) ∙ ap (λ (e : Expansion Nowhere). e.marks ++ map bare_mark (hidden (keyed kwargs_key 0 t.arguments))) (sym (whole_bare p c t.arguments))

abbrev pub of_sources : FileKind
of_sources = record {
  key = sources_key;
  read = sources;
  marks = λ p c. source_marks p c;
  look = λ xs. xs;
  hide = λ xs. keyed kwargs_key 0 xs;
  is_read = λ p c t. ap (λ o. option_map (sources_of_call p) (option_map (placed c) (option_and_then call_of o))) t.at;
  are_marks = source_marks_are;
  same_parts = λ xs. refl;
  same_blanks = λ xs ys is. is;
  level = λ xs is. is;
  hides = λ xs ys same. same kwargs_key;
}

-- ---- extra files

pub extra_marks_are : (p : Project Span) (c : CallRef) (t : CallIn p c)
    → map bare_mark (extra_marks p (called t)) ≡ (whole (expand_with (values_of p) max_followed) c (extra.as_sources (bare_arguments t)) []).marks ++ []
extra_marks_are p c t =
    let met = extra.as_whole (expand_with (values_of p) max_followed) c (bare_arguments t)
    ∙ ap (λ l. list_with (expand_with (values_of p) max_followed) c (λ n. fixed) l []) (keyed_bare extra_key 0 t.arguments) ∙ list_bare p c (λ n. fixed) (keyed extra_key 0 t.arguments) [] in
    sym (ap (λ (e : Expansion Nowhere). e.marks) met) ∙ sym (append-nil (whole (expand_with (values_of p) max_followed) c (extra.as_sources (bare_arguments t)) []).marks)

abbrev pub of_extras : FileKind
of_extras = record {
  key = extra_key;
  read = extra_files;
  marks = λ p c. extra_marks p c;
  look = extra.as_sources;
  hide = λ xs. [];
  is_read = λ p c t. ap (λ o. option_map (extra_of_call p) (option_map (placed c) (option_and_then call_of o))) t.at;
  are_marks = extra_marks_are;
  same_parts = extra.same_parts;
  same_blanks = extra.same_blanks;
  level = λ xs is. extra.still_level xs false false is;
  hides = λ xs ys same. refl;
}

-- ---- of either kind

module _ (what : FileKind) where
  -- what is met of a call with these arguments
  abbrev pub met_in : Project Span → CallRef → Arguments Nowhere → Expansion Nowhere
  met_in p c xs = whole (expand_with (values_of p) max_followed) c (what.look xs) []

  -- further ones go to this list
  abbrev pub GoesTo : Project Span → Placed (Call Span) → CallRef → Type 0
  GoesTo p c h = or_option (first_list (what.marks p c)) (first_empty (what.marks p c)) ≡ Some h

  module _ (p : Project Span) (c : CallRef) (t : CallIn p c) where
    pub not_clear : (new : List (List ℕ)) (seen : List (List ℕ) → Bool) (h : CallRef) → GoesTo p (called t) h → Every (Clear new (IsIt h) seen) (met_in p c (bare_arguments t)).marks → ⊥
    not_clear new seen h goes clear =
        no_home new seen h (what.marks p (called t)) (subst (Every (Clear new (IsIt h) seen)) (sym (what.are_marks p c t)) (every-append (Clear new (IsIt h) seen) _ _ clear (hidden_clear new seen h (what.hide t.arguments)))) goes

    pub marks_say : gist (what.marks p (called t)) ≡ gist (met_in p c (bare_arguments t)).marks ++ gist {S = Span} (hidden (what.hide t.arguments))
    marks_say =
        let met = (met_in p c (bare_arguments t)).marks in
        sym (gist_bare (what.marks p (called t))) ∙ ap gist (what.are_marks p c t) ∙ gist_append met (map bare_mark (hidden (what.hide t.arguments))) ∙ ap (λ g. gist met ++ g) (gist_bare (hidden (what.hide t.arguments)))

    pub marks_contain : mark_contents (what.marks p (called t)) ≡ mark_contents (met_in p c (bare_arguments t)).marks ++ mark_contents {S = Span} (hidden (what.hide t.arguments))
    marks_contain =
        let met = (met_in p c (bare_arguments t)).marks in
        sym (contents_bare (what.marks p (called t))) ∙ ap mark_contents (what.are_marks p c t)
        ∙ contents_append met (map bare_mark (hidden (what.hide t.arguments))) ∙ ap (λ g. mark_contents met ++ g) (contents_bare (hidden (what.hide t.arguments)))

    pub read_once : length (keyed what.key 0 t.arguments) ≤ 1 → what.read p c ≡ Some (Ok (sources_of_marks c (what.marks p (called t))))
    read_once few = what.is_read p c t ∙ ap Some (once_few what.key (keyed what.key 0 t.arguments) (sources_of_marks c (what.marks p (called t))) few)

-- ==== After an addition a target has its old files and the new ones.

-- The files at the place are the old ones and, in one place among them, these; and as many as before are not known.
pub record FilesGrown (read : Reading) (new : List (List ℕ)) (c : CallRef) (p q : Project Span) : Type 0 where
  pub before : found.Sources
  pub were : read p c ≡ Some (Ok before)
  pub after : found.Sources
  pub are : read q c ≡ Some (Ok after)
  pub come : TextsCome new (source_texts before) (source_texts after)
  pub unknown : after.opaque ≡ before.opaque

pub value_texts : (is : List (Item Span)) → map (λ (i : SourceItem). i.value) (map source_item is) ≡ map (λ (i : Item Span). i.text) is
value_texts [] = refl
value_texts (i ∷ is) = ap (λ l. i.text ∷ l) (value_texts is)

hidden_same : (xs ys : List (Numbered (Expression Span))) → length ys ≡ length xs → gist {S = Span} (hidden ys) ≡ gist {S = Span} (hidden xs)
hidden_same [] [] same = refl
hidden_same [] (y ∷ ys) same = absurd cc
hidden_same (x ∷ xs) [] same = absurd cc
hidden_same (x ∷ xs) (y ∷ ys) same = refl

-- as many have a key with spans as without
pub bare_length : (key : List ℕ) (xs : Arguments Span) → length (keyed key 0 xs) ≡ key_count key (erase_arguments xs)
bare_length key xs = key_length key 0 xs ∙ sym (key_bare key xs)

module _ (what : FileKind) (new_texts : List (List ℕ)) (old new : Loaded) (c : CallRef) (t : CallIn (project old) c) (few : length (keyed what.key 0 t.arguments) ≤ 1) (list : Arguments Nowhere) (node : CallNode (plain_trees new) c list) where
  pub answered : key_count what.key list ≤ 1 → ((ys : Arguments Span) → erase_arguments ys ≡ list → length (what.hide ys) ≡ length (what.hide t.arguments))
      → Grows new_texts (gist (met_in what (project old) c (bare_arguments t)).marks) (gist (met_in what (project new) c list).marks) → FilesGrown what.read new_texts c (project old) (project new)
  answered few2 hides grows =
      let k = call_again new c list node in
      let marks = what.marks (project old) (called t) in
      let marks2 = what.marks (project new) (called k.it) in
      let many : length (keyed what.key 0 k.it.arguments) ≡ key_count what.key list = bare_length what.key k.it.arguments ∙ ap (key_count what.key) k.same in
      let all : Grows new_texts (gist marks) (gist marks2) =
      moved new_texts _ _ (gist marks) (gist marks2) (marks_say what (project old) c t)
      (marks_say what (project new) c k.it ∙ ap₂ (λ g h. g ++ h) (ap (λ l. gist (met_in what (project new) c l).marks) k.same) (hidden_same (what.hide t.arguments) (what.hide k.it.arguments) (hides k.it.arguments k.same)))
      (grows_first new_texts (gist (met_in what (project old) c (bare_arguments t)).marks) (gist (met_in what (project new) c list).marks) (gist {S = Span} (hidden (what.hide t.arguments))) grows) in
      let come = texts_come new_texts (gist marks) (gist marks2) all in
      record {
        before = sources_of_marks c marks;
        were = read_once what (project old) c t few;
        after = sources_of_marks c marks2;
        are = read_once what (project new) c k.it (omega (arith, many, few2));
        come = record {
          front = come.front;
          back = come.back;
          had = value_texts (items marks) ∙ texts_are marks ∙ come.had;
          has = value_texts (items marks2) ∙ texts_are marks2 ∙ come.has;
        };
        unknown = unknown_is marks2 ∙ as_unknown new_texts (gist marks) (gist marks2) all ∙ sym (unknown_is marks);
      }

  -- where as many arguments have each key
  pub answered_alike : ((key : List ℕ) → key_count key list ≡ key_count key (bare_arguments t))
      → Grows new_texts (gist (met_in what (project old) c (bare_arguments t)).marks) (gist (met_in what (project new) c list).marks) → FilesGrown what.read new_texts c (project old) (project new)
  answered_alike counts grows =
      let same = counts what.key in
      let many = bare_length what.key t.arguments in
      answered (omega (arith, same, many, few))
      (λ ys is. what.hides t.arguments ys (λ key. bare_length key ys ∙ ap (key_count key) is ∙ counts key ∙ sym (bare_length key t.arguments))) grows

-- ==== After a removal a target has its old files without those that have gone.

module _ (gone : CallRef → ℕ → Bool) where
  left_bare : {S : Type 0} (ms : List (Mark S)) → left_of gone (map bare_mark ms) ≡ left_of gone ms
  left_bare [] = refl
  left_bare (known i ∷ ms) = ap (head_by (slot_gone gone i.slot) (item_left gone i)) (left_bare ms)
  left_bare (opaque ∷ ms) = ap (λ l. opaque ∷ l) (left_bare ms)
  left_bare (empty p ∷ ms) = left_bare ms

  hidden_left : (xs ys : List (Numbered (Expression Span))) → length ys ≡ length xs → mark_contents {S = Span} (hidden ys) ≡ left_of gone {S = Span} (hidden xs)
  hidden_left [] [] same = refl
  hidden_left [] (y ∷ ys) same = absurd cc
  hidden_left (x ∷ xs) [] same = absurd cc
  hidden_left (x ∷ xs) (y ∷ ys) same = refl

  pub unknown_left : {S : Type 0} (ms : List (Mark S)) → opaque_count (left_of gone ms) ≡ opaque_count ms
  unknown_left [] = refl
  unknown_left (known i ∷ ms) = go (slot_gone gone i.slot) (unknown_left ms)
    where
      go : (b : Bool) → opaque_count (left_of gone ms) ≡ opaque_count ms → opaque_count (head_by b (item_left gone i) (left_of gone ms)) ≡ opaque_count ms
      go true more = more
      go false more = more
  unknown_left (opaque ∷ ms) = ap suc (unknown_left ms)
  unknown_left (empty p ∷ ms) = unknown_left ms

  -- The call there, with as many arguments of each name as before, and what it tells.
  pub record CallStays (what : FileKind) (old new : Loaded) (c d : CallRef) (t : CallIn (project old) c) : Type 0 where
    pub it : CallIn (project new) d
    pub keys : (key : List ℕ) → length (keyed key 0 it.arguments) ≡ length (keyed key 0 t.arguments)
    pub marks : mark_contents (what.marks (project new) (called it)) ≡ left_of gone (what.marks (project old) (called t))

  module _ (what : FileKind) (old new : Loaded) (c d : CallRef) (t : CallIn (project old) c) where
    marks_left : left_of gone (what.marks (project old) (called t)) ≡ left_of gone (met_in what (project old) c (bare_arguments t)).marks ++ left_of gone {S = Span} (hidden (what.hide t.arguments))
    marks_left =
        let met = (met_in what (project old) c (bare_arguments t)).marks in
        sym (left_bare (what.marks (project old) (called t))) ∙ ap (left_of gone) (what.are_marks (project old) c t)
        ∙ left_append gone met (map bare_mark (hidden (what.hide t.arguments))) ∙ ap (λ g. left_of gone met ++ g) (left_bare (hidden (what.hide t.arguments)))

    pub call_moved : (list : Arguments Nowhere) → CallNode (plain_trees new) d list → ((key : List ℕ) → key_count key list ≡ key_count key (bare_arguments t))
        → Left gone (met_in what (project old) c (bare_arguments t)) (met_in what (project new) d list) → CallStays what old new c d t
    call_moved list node counts loses =
        let k = call_again new d list node in
        let lengths : (key : List ℕ) → length (keyed key 0 k.it.arguments) ≡ length (keyed key 0 t.arguments) =
        (λ key. bare_length key k.it.arguments ∙ ap (key_count key) k.same ∙ counts key ∙ sym (bare_length key t.arguments)) in
        record {
          it = k.it;
          keys = lengths;
          marks =
              marks_contain what (project new) d k.it
              ∙ ap₂ (λ g h. g ++ h) (ap (λ l. mark_contents (met_in what (project new) d l).marks) k.same ∙ loses.says) (hidden_left (what.hide t.arguments) (what.hide k.it.arguments) (what.hides t.arguments k.it.arguments lengths)) ∙ sym marks_left;
        }

  module _ (names : List (List ℕ)) where
    abbrev stays : List ℕ → Bool
    stays text = not (one_of names text)

    -- exactly those with these names have gone
    abbrev pub NamedGoes : {S : Type 0} → Item S → Type 0
    NamedGoes i = slot_gone gone i.slot ≡ one_of names i.text

    abbrev texts : List (Mark Nowhere) → List (List ℕ)
    texts ms = map (λ i. i.text) (items ms)

    texts_left : {S : Type 0} (ms : List (Mark S)) → Every NamedGoes (items ms) → texts (left_of gone ms) ≡ filter stays (map (λ (i : Item S). i.text) (items ms))
    texts_left [] all = refl
    texts_left (known i ∷ ms) all = ap (λ b. texts (head_by b (item_left gone i) (left_of gone ms))) all.0 ∙ go (one_of names i.text) (texts_left ms all.1)
      where
        go : (b : Bool) → texts (left_of gone ms) ≡ filter stays (map (λ i. i.text) (items ms))
            → texts (head_by b (item_left gone i) (left_of gone ms)) ≡ (if not b then i.text ∷ filter stays (map (λ i. i.text) (items ms)) else filter stays (map (λ i. i.text) (items ms)))
        go true more = more
        go false more = ap (λ l. i.text ∷ l) more
    texts_left (opaque ∷ ms) all = texts_left ms all
    texts_left (empty p ∷ ms) all = texts_left ms all

    -- what the target at the one place has, and what it has at the other one afterwards
    pub record FilesStay (read : Reading) (c d : CallRef) (p q : Project Span) : Type 0 where
      pub before : found.Sources
      pub were : read p c ≡ Some (Ok before)
      pub after : found.Sources
      pub are : read q d ≡ Some (Ok after)
      pub left : source_texts after ≡ filter stays (source_texts before)
      pub unknown_is : after.opaque ≡ before.opaque

    pub left_answered : (what : FileKind) (old new : Loaded) (c d : CallRef) (t : CallIn (project old) c) → length (keyed what.key 0 t.arguments) ≤ 1 → CallStays what old new c d t
        → Every NamedGoes (items (what.marks (project old) (called t))) → FilesStay what.read c d (project old) (project new)
    left_answered what old new c d t few k as_named =
        let marks = what.marks (project old) (called t) in
        let marks2 = what.marks (project new) (called k.it) in
        let same = k.keys what.key in
        record {
          before = sources_of_marks c marks;
          were = read_once what (project old) c t few;
          after = sources_of_marks d marks2;
          are = read_once what (project new) d k.it (omega (arith, same, few));
          left = value_texts (items marks2) ∙ sym (contents_texts marks2) ∙ ap texts k.marks ∙ texts_left marks as_named ∙ ap (filter stays) (sym (value_texts (items marks)));
          unknown_is = sym (contents_unknown marks2) ∙ ap opaque_count k.marks ∙ unknown_left marks;
        }
