-- A string of a list becomes another one: the tree is what it was with the other string in that place.
use Rattle.meson_edit.specs.Edits.{Replace}
use Rattle.meson_edit.specs.Places.{Writes}
use Rattle.meson_edit.proofs.sequences.Deepened.{edits-deepen}
use Rattle.meson_edit.proofs.sequences.Levelled.{replacements-keep-levels}
use Rattle.meson_steps.specs.WrittenTexts.{written_text}
use Rattle.meson_sources.specs.Exchanged.{block_with, Chosen, tree_with, under}
use Rattle.meson_sources.proofs.Words.{if◌then◌else◌, option_and_then, option_map, [], ap, ap₂, arith, Bool, drop, false, List, refl, Some, subst, suc, sym, take}
use Rattle.meson_sources.proofs.Words.{true, zero, ℕ, ◌++◌, ◌+◌, ◌∙◌, ◌∷◌, ◌≡◌, ◌≤◌, a_block, an_expression, arguments_parts, LevelFile, LevelListing, LevelArguments}
use Rattle.meson_sources.proofs.Words.{listing_parts, file_depth, block_of, list_in, ListAt, ListIn, nth, value_of, Argument, argument, argument_list, arguments_of, array, call}
use Rattle.meson_sources.proofs.Words.{dictionary, Expression, file, Listing, listing, named, Nowhere, pair, Plain, plain, string, Bracket, StringKind, child_nodes}
use Rattle.meson_sources.proofs.Words.{list-of-arguments, some-injective, Every, list-fits, edited, edited_there, elements, exchanged, is_empty, with_elements, plain_holds}
use Rattle.meson_sources.proofs.Words.{values_no_pairs, MayStandBetween, string_of, Differ, differ_new, differ_old, differ_other, here, there}
use Rattle.meson_sources.proofs.renamed.Nodes.{any_with, each_child, node_same, nowhere}
use Rattle.meson_sources.proofs.trees.Elements.{HasOnePart, IsElementAt, IsStringElement, Node, one_part, root}
use Rattle.meson_sources.proofs.trees.Shapes.{Becomes, Step, list_becomes, shape_of}
use Rattle.meson_sources.proofs.trees.Skeletons.{a_list, array_kind, blank, blanks, call_kind, dictionary_kind, list_blanks, skeleton, trailing_of}

-- ==== The tree where one string becomes another, by what is chosen in it.

-- The place to which the path leads is chosen in the tree before, and any other as in the tree after.
abbrev pub OneMore : List ℕ → Chosen → Chosen → Type 0
OneMore [] g h = g [] ≡ true
OneMore (m ∷ path) g h = (h [] ≡ g []) × ((c : ℕ) → (m ≡ c → ⊥) → under c h ≡ under c g) × OneMore path (under m g) (under m h)

module _ (w : Expression Nowhere) (g h : Chosen) where
  each_same : (k : ℕ) (xs : List Node) → ((c : ℕ) → k ≤ c → under c h ≡ under c g) → each_child w h k xs ≡ each_child w g k xs
  each_same k [] all = refl
  each_same k (x ∷ xs) all = ap₂ (λ y l. y ∷ l) (ap (λ u. any_with w u x) (all k (omega arith))) (each_same (suc k) xs (λ c low. all c (omega (arith, low))))

  differ_with : (y next : Node) (n k m : ℕ) (xs ys : List Node) → m ≡ k + n → Differ y next n xs ys → any_with w (under m h) next ≡ any_with w (under m g) y → ((c : ℕ) → (m ≡ c → ⊥) → under c h ≡ under c g)
      → each_child w h k ys ≡ each_child w g k xs
  differ_with y next n k m xs ys is (here {xs = more}) one others =
      let same : m ≡ k = omega (arith, is) in
      ap₂ (λ z l. z ∷ l) (subst (λ i. any_with w (under i h) next ≡ any_with w (under i g) y) same one) (each_same (suc k) more (λ c low. others c (λ equal. omega (arith, same, low, equal))))
  differ_with y next n k m xs ys is (there {x = x} {n = i} {xs = us} {ys = vs} d) one others =
      ap₂ (λ z l. z ∷ l) (ap (λ u. any_with w u x) (others k (λ equal. omega (arith, is, equal)))) (differ_with y next i (suc k) m us vs (omega (arith, is)) d one others)

module _ (name : List ℕ) (q : StringKind) (text : List ℕ) where
  abbrev pub new_string : Expression Nowhere
  new_string = string_of name

  abbrev pub old_string : Expression Nowhere
  old_string = string tt q text

  kept_string : (b : Bool) → (if b then new_string else new_string) ≡ new_string
  kept_string true = refl
  kept_string false = refl

  pub along : (path : List ℕ) (x now : Node) → Becomes (an_expression old_string) (an_expression new_string) path x now → (g h : Chosen) → OneMore path g h
      → any_with new_string h now ≡ any_with new_string g x
  along [] x now b g h r =
      ap (any_with new_string h) b.1 ∙ ap an_expression (kept_string (h [])) ∙ ap (λ c. an_expression (if c then new_string else old_string)) (sym r) ∙ sym (ap (any_with new_string g) b.0)
  along (n ∷ path) x now b g h r =
      node_same new_string g h x now r.0 b.2.skeletons
      (differ_with new_string g h b.0 b.1 n 0 n (child_nodes x) (child_nodes now) (omega arith) b.2.parts (along path b.0 b.1 b.3 (under n g) (under n h) r.2) r.1)

-- ==== The list of the string has it as its child of the same number.

module _ (s w : Expression Nowhere) where
  abbrev changed_list : ℕ → List (Argument Nowhere) → List (Argument Nowhere)
  changed_list k xs = take k xs ++ plain w ∷ drop (suc k) xs

  list_differs : (k : ℕ) (xs : List (Argument Nowhere)) → Every HasOnePart xs → nth xs k ≡ Some (plain s)
      → Differ (an_expression s) (an_expression w) k (arguments_parts (arguments_of xs)) (arguments_parts (arguments_of (changed_list k xs)))
  list_differs k [] every is = absurd cc
  list_differs zero (x ∷ xs) every is =
      subst (λ y. Differ (an_expression s) (an_expression w) 0 (arguments_parts (arguments_of (y ∷ xs))) (arguments_parts (arguments_of (plain w ∷ xs)))) (sym (some-injective _ _ is)) here
  list_differs (suc k) (plain e ∷ xs) every is = there (list_differs k xs every.1 is)
  list_differs (suc k) (named r x e ∷ xs) every is = there (list_differs k xs every.1 is)
  list_differs (suc k) (pair r e f ∷ xs) every is = let two = every.0 in absurd cc

  blanks_stay : (k : ℕ) (xs : List (Argument Nowhere)) → nth xs k ≡ Some (plain s) → blanks (arguments_of (changed_list k xs)) ≡ blanks (arguments_of xs)
  blanks_stay k [] is = absurd cc
  blanks_stay zero (x ∷ xs) is = ap (λ y. blanks (arguments_of (y ∷ xs))) (sym (some-injective _ _ is))
  blanks_stay (suc k) (x ∷ xs) is = ap (λ l. blank x ∷ l) (blanks_stay k xs is)

  not_empty : (xs ys : List (Argument Nowhere)) → is_empty (xs ++ plain w ∷ ys) ≡ false
  not_empty [] ys = refl
  not_empty (x ∷ xs) ys = refl

  -- the list with the other string
  abbrev pub new_list : ℕ → Listing Nowhere → Listing Nowhere
  new_list k l = with_elements l (changed_list k (elements l))

  trailing_stays : (k : ℕ) (l : Listing Nowhere) → trailing_of (new_list k l) ≡ trailing_of l
  trailing_stays k (listing r t list) = ap (λ b. if b then false else t) (not_empty (take k (argument_list list)) (drop (suc k) (argument_list list)))

  list_blanks_stay : (k : ℕ) (l : Listing Nowhere) → nth (elements l) k ≡ Some (plain s) → list_blanks (new_list k l) ≡ list_blanks l
  list_blanks_stay k (listing r t list) is = blanks_stay k (argument_list list) is ∙ ap blanks (list-of-arguments list)

  parts_differ : (k : ℕ) (l : Listing Nowhere) → Every HasOnePart (elements l) → nth (elements l) k ≡ Some (plain s) → Differ (an_expression s) (an_expression w) k (listing_parts l) (listing_parts (new_list k l))
  parts_differ k (listing r t list) every is =
      subst (λ (m : _). Differ (an_expression s) (an_expression w) k (arguments_parts m) (arguments_parts (arguments_of (changed_list k (argument_list list))))) (list-of-arguments list) (list_differs k (argument_list list) every is)

  -- what is seen of what has the list
  abbrev Stays : ℕ → Expression Nowhere → ListIn Nowhere → Type 0
  Stays k e l = Every HasOnePart (elements l.list) → nth (elements l.list) k ≡ Some (plain s) → Step (an_expression e) (an_expression (l.back (new_list k l.list))) (an_expression s) (an_expression w) k

  pub last_step : (k : ℕ) (e : Expression Nowhere) (l : ListIn Nowhere) → list_in e ≡ Some l → Stays k e l
  last_step k (array m) l is = subst (Stays k (array m)) (some-injective _ _ is) (λ every there.
      let same = ap₂ (a_list array_kind) (trailing_stays k m) (list_blanks_stay k m there) in record { parts = parts_differ k m every there; skeletons = same; shapes = ap shape_of same })
  last_step k (dictionary m) l is = subst (Stays k (dictionary m)) (some-injective _ _ is) (λ every there.
      let same = ap₂ (a_list dictionary_kind) (trailing_stays k m) (list_blanks_stay k m there) in record { parts = parts_differ k m every there; skeletons = same; shapes = ap shape_of same })
  last_step k (call r x m) l is = subst (Stays k (call r x m)) (some-injective _ _ is) (λ every there.
      let same = ap₂ (a_list (call_kind x.text)) (trailing_stays k m) (list_blanks_stay k m there) in record { parts = parts_differ k m every there; skeletons = same; shapes = ap shape_of same })
  last_step k _ l is = absurd cc

one_below : (old new s w : Node) (k : ℕ) → Step old new s w k → (path : List ℕ) (x now : Node) → Becomes old new path x now → Becomes s w (path ++ k ∷ []) x now
one_below old new s w k step [] x now b =
    let from_old = subst (λ y. Step y new s w k) (sym b.0) step in
    (s, w, subst (λ y. Step x y s w k) (sym b.1) from_old, (refl, refl))
one_below old new s w k step (m ∷ path) x now b = (b.0, b.1, b.2, one_below old new s w k step path b.0 b.1 b.3)

-- ==== One string is exchanged.

one_part_each : (l : Listing Nowhere) (b : Bracket) (k : ℕ) (e : Expression Nowhere) → LevelListing l b → nth (elements l) k ≡ Some (plain e) → Every HasOnePart (elements l)
one_part_each (listing r t list) b k e level is = one_part (listing r t list) b (values_no_pairs b (plain_holds list b false k e level.1 is)) level

-- the tree with a string of this name in the place of another one
pub record StringPut (name : List ℕ) (t : Plain) (path : List ℕ) (k : ℕ) : Type 0 where
  pub now : Plain
  pub is_now : edited (Replace path k (written_text name)) t ≡ Some now
  pub may : MayStandBetween now
  pub kind : StringKind
  pub text : List ℕ
  pub becomes : Becomes (an_expression (string tt kind text)) (an_expression (string_of name)) (path ++ k ∷ []) (root t) (root now)

pub string_put : (name : List ℕ) (t : Plain) (path : List ℕ) (k : ℕ) → MayStandBetween t → (it : Argument Nowhere) → IsElementAt t path k it → IsStringElement it → StringPut name t path k
string_put name t path k may it stands is_string =
    let q = stands.place in
    let s = string tt is_string.kind is_string.text in
    let w = string_of name in
    let is = stands.is_element ∙ ap Some is_string.is in
    let xs = elements q.list in
    let now = q.back (new_list s w k q.list) in
    let e = Replace path k (written_text name) in
    let made : edited e t ≡ Some now = edited_there t path q stands.is_place e (take k xs ++ plain w ∷ drop (suc k) xs) (ap (option_and_then (exchanged k (λ v. w) xs)) is) in
    let deep = edits-deepen e path refl t now made in
    let shallow : file_depth now ≤ 65 = omega (arith, deep, may.1) in
    let level = (list-fits Nowhere t path q stands.is_place).level may.0 in
    let b = list_becomes t path q stands.is_place (new_list s w k q.list) in
    let step = subst (λ l. Every HasOnePart (elements l) → nth (elements l) k ≡ Some (plain s) → Step (an_expression b.node) (an_expression (b.inner.back (new_list s w k l))) (an_expression s) (an_expression w) k) b.same
    (last_step s w k b.node b.inner b.is_inner) (one_part_each q.list q.bracket k s level is) is in
    record {
      now = now;
      is_now = made;
      may = (replacements-keep-levels path k (written_text name) tt t now may.0 made, shallow);
      kind = is_string.kind;
      text = is_string.text;
      becomes = one_below (an_expression b.node) (an_expression (b.inner.back (new_list s w k q.list))) (an_expression s) (an_expression w) k step path (root t) (root now) b.becomes;
    }

by_blocks : (w : Expression Nowhere) (g h : Chosen) (t now : Plain) → any_with w h (a_block (block_of now)) ≡ any_with w g (a_block (block_of t)) → tree_with w h now ≡ tree_with w g t
by_blocks w g h (file s b) (file r d) is = let same : block_with w h d ≡ block_with w g b = cc in ap (file s) same

pub string_exchanged : (name : List ℕ) (t : Plain) (path : List ℕ) (k : ℕ) (p : StringPut name t path k) (g h : Chosen) → OneMore (path ++ k ∷ []) g h → tree_with (string_of name) h p.now ≡ tree_with (string_of name) g t
string_exchanged name t path k p g h more =
    by_blocks (string_of name) g h t p.now (along name p.kind p.text (path ++ k ∷ []) (root t) (root p.now) p.becomes g h more)
