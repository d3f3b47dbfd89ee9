-- Edits of whole elements, laid out: one behind another, one gone, and the first of a list that has none.
use Rattle.meson_edit.proofs.Words.{◌≡◌, ℕ, true, false, List, [], ◌∷◌, ◌++◌, Some, refl, sym, ap, ap₂, subst, ◌∙◌, option_map, append-nil, Lexeme, IsItemList}
use Rattle.meson_edit.proofs.Words.{Word, spoken, Span, PartIn, Edited, IsWithout, layout_of, remarks, comma_word, IsBehindElement, IsBeforeElement, first-law}
use Rattle.meson_edit.proofs.Words.{argument_words, LevelListing, nth, list_span, inner_words, IsSpannedWithin, Nowhere, Plain, Listing, listing, Argument}
use Rattle.meson_edit.proofs.Words.{no_arguments, argument, File, erase, erase_listing, Bracket, Limits, some-injective, map-some, list-fits, Written, Edit}
use Rattle.meson_edit.proofs.Words.{First, After, Remove, elements, with_elements, first_element, element_added, element_removed, element_span, IsWritten}
use Rattle.meson_edit.proofs.Words.{argument_span, ElementStands, ListPlaces}
use Rattle.meson_layout.specs.declared.primitive.Primitive.TheVariants as layout
use Rattle.meson_layout.proofs.InsertionLaws.{insertion-law}
use Rattle.meson_layout.proofs.RemovalLaws.{removal-law}
use Rattle.meson_edit.proofs.places.Standing.{lists-stand}
use Rattle.meson_edit.proofs.lists.Cuts.{CutAt, cut-at}
use Rattle.meson_edit.proofs.lists.Found.{Found, now_list, found}
use Rattle.meson_edit.proofs.lists.Places.{list_among, part_among, span-there, bracket-there}
use Rattle.meson_edit.proofs.lists.LaidOut.{LaidOut, Lays}

-- ---- an element in its list

-- the n-th element among the items, cut there
record ElementIn (f : File Span) (items : List Lexeme) (path : List ℕ) (n : ℕ) (e : Edit) (t : Plain) (o : Found f e path t) (it : Argument Nowhere) : Type 0 where
  places : ListPlaces items o.p
  cut : CutAt o.p.list n it
  is_span : element_span f path n ≡ Some (argument_span cut.at.element)
  part : ElementStands items o.p places.list cut.at

element-in : (limits : Limits) (bytes : List ℕ) (f : File Span) (s : IsSpannedWithin limits bytes f) (path : List ℕ) (n : ℕ) (e : Edit) (t : Plain) (o : Found f e path t)
    → (it : Argument Nowhere) → nth (elements (erase_listing o.p.list)) n ≡ Some it → ElementIn f s.reads.spells.items path n e t o it
element-in limits bytes f s path n e t o it is =
    let items = s.reads.spells.items in
    let c = cut-at o.p.list n it is in
    let places = lists-stand limits bytes f s path o.p o.is_p in
    record {
      places = places;
      cut = c;
      is_span = rw (o.is_p, c.there) refl;
      part = places.elements n c.at c.is_at;
    }

-- the element as the layout wants it
abbrev among : (f : File Span) (items : List Lexeme) (path : List ℕ) (n : ℕ) (e : Edit) (t : Plain) (o : Found f e path t) (it : Argument Nowhere) (v : ElementIn f items path n e t o it)
    → PartIn items (list_among items o.p v.places.list) (argument_span v.cut.at.element)
among f items path n e t o it v = let at = v.cut.at in part_among items o.p v.places.list (argument_span at.element) at.before (argument_words at.element) at.behind v.part

-- ---- an element behind another one

-- the words of the list with it
after-words : (l : Listing Span) (n : ℕ) (it : Argument Nowhere) (c : CutAt l n it) (new : Argument Nowhere) (left own fresh right : List Word)
    → left ≡ c.at.before → own ≡ argument_words c.at.element → fresh ≡ argument_words new → right ≡ c.at.behind
    → (now : List (Argument Nowhere)) → element_added n new (elements (erase_listing l)) it ≡ now
    → left ++ (own ++ comma_word ∷ (fresh ++ right)) ≡ inner_words (with_elements (erase_listing l) now)
after-words l n it c new left own fresh right is_left is_own is_fresh is_right now is_now =
    ap₂ (λ u w. u ++ (own ++ comma_word ∷ (fresh ++ w))) is_left is_right
    ∙ ap₂ (λ u w. c.at.before ++ (u ++ comma_word ∷ (w ++ c.at.behind))) is_own is_fresh
    ∙ sym (c.inserted new)
    ∙ ap (λ xs. inner_words (with_elements (erase_listing l) xs)) is_now

after-laid : (bytes : List ℕ) (f : File Span) (items : List Lexeme) → IsItemList bytes items → (name : List ℕ) (path : List ℕ) (n : ℕ) (new : Written (Argument Nowhere))
    → IsWritten new.bytes (argument_words new.node) → (t : Plain) (o : Found f (After path n new) path t) (it : Argument Nowhere) → ElementIn f items path n (After path n new) t o it
    → element_added n new.node (elements (erase_listing o.p.list)) it ≡ o.list → LaidOut bytes f items name (After path n new) path t
after-laid bytes f items are name path n new writes t o it v now =
    let c = v.cut in
    let p = v.part in
    let span = argument_span c.at.element in
    let l = list_among items o.p v.places.list in
    let part = among f items path n (After path n new) t o it v in
    let ss = layout_of name items (layout.After span new.bytes) in
    let law = insertion-law name bytes items are l span part (subst IsBehindElement (sym p.is_right) c.begins) new.bytes writes.items writes.is_new in
    let words = after-words o.p.list n it c new.node (spoken p.left) (spoken p.own) (spoken writes.items) (spoken p.right) p.is_left p.is_own writes.is_words p.is_right o.list now in
    record {
      place = o;
      places = v.places;
      primitive = layout.After span new.bytes;
      is_primitive = ap (option_map (λ x. layout.After x new.bytes)) v.is_span;
      of_list = part;
      placed = span-there items l span part;
      writes = writes.utf8;
      left = p.left ++ p.own;
      right = p.right;
      notes = remarks l.inner;
      touches = (c.at, c.is_at, p, refl, refl, refl);
      edited = subst (λ ws. Edited bytes items l (p.left ++ p.own) p.right ss ws (remarks l.inner)) words law;
    }

pub after-lays : (path : List ℕ) (n : ℕ) (new : Written (Argument Nowhere)) → Lays (After path n new) path
after-lays path n new limits bytes f s name writes t is =
    let o = found f (After path n new) path t is in
    let list = elements (erase_listing o.p.list) in
    let there = map-some (element_added n new.node list) (nth list n) o.list o.is_list in
    let v = element-in limits bytes f s path n (After path n new) t o there.0 there.1 in
    after-laid bytes f s.reads.spells.items s.reads.spells.are_items name path n new writes t o there.0 v there.2

-- ---- an element gone

remove-laid : (bytes : List ℕ) (f : File Span) (items : List Lexeme) → IsItemList bytes items → (name : List ℕ) (path : List ℕ) (n : ℕ) (t : Plain) (o : Found f (Remove path n) path t)
    → (it : Argument Nowhere) → ElementIn f items path n (Remove path n) t o it → element_removed n (elements (erase_listing o.p.list)) it ≡ o.list → LaidOut bytes f items name (Remove path n) path t
remove-laid bytes f items are name path n t o it v now =
    let c = v.cut in
    let p = v.part in
    let span = argument_span c.at.element in
    let l = list_among items o.p v.places.list in
    let part = among f items path n (Remove path n) t o it v in
    let words = inner_words (now_list f (Remove path n) path t o) in
    let gone : IsWithout c.at.before c.at.behind words = subst (λ xs. IsWithout c.at.before c.at.behind (inner_words (with_elements (erase_listing o.p.list) xs))) now c.removed in
    let without : IsWithout (spoken p.left) (spoken p.right) words =
    subst (λ w. IsWithout w (spoken p.right) words) (sym p.is_left) (subst (λ w. IsWithout c.at.before w words) (sym p.is_right) gone) in
    record {
      place = o;
      places = v.places;
      primitive = layout.Remove span;
      is_primitive = ap (option_map layout.Remove) v.is_span;
      of_list = part;
      placed = span-there items l span part;
      writes = tt;
      left = p.left;
      right = p.right;
      notes = remarks p.left ++ remarks p.right;
      touches = (c.at, c.is_at, p, refl, refl, refl);
      edited = removal-law name bytes items are l span part (subst IsBeforeElement (sym p.is_left) c.ends) (subst IsBehindElement (sym p.is_right) c.begins) words without;
    }

pub remove-lays : (path : List ℕ) (n : ℕ) → Lays (Remove path n) path
remove-lays path n limits bytes f s name writes t is =
    let o = found f (Remove path n) path t is in
    let list = elements (erase_listing o.p.list) in
    let there = map-some (element_removed n list) (nth list n) o.list o.is_list in
    let v = element-in limits bytes f s path n (Remove path n) t o there.0 there.1 in
    remove-laid bytes f s.reads.spells.items s.reads.spells.are_items name path n t o there.0 v there.2

-- ---- the first element

-- a list without elements, and its words with one
record Empty (l : Listing Span) (b : Bracket) (new : Argument Nowhere) (now : List (Argument Nowhere)) : Type 0 where
  none : inner_words l ≡ []
  words : LevelListing (erase_listing l) b → inner_words (with_elements (erase_listing l) now) ≡ argument_words new

empty-is : (l : Listing Span) (b : Bracket) (new : Argument Nowhere) (now : List (Argument Nowhere)) → first_element new (elements (erase_listing l)) ≡ Some now → Empty l b new now
empty-is (listing s true no_arguments) b new now is = record { none = refl; words = λ level. let no : true ≡ false = level.0 in absurd cc }
empty-is (listing s false no_arguments) b new now is = record {
  none = refl;
  words = λ level. ap (λ xs. inner_words (with_elements (listing tt false no_arguments) xs)) (sym (some-injective _ _ is)) ∙ append-nil (argument_words new);
}
empty-is (listing s trailing (argument a more)) b new now is = absurd cc

pub first-lays : (path : List ℕ) (new : Written (Argument Nowhere)) → Lays (First path new) path
first-lays path new limits bytes f s name writes t is =
    let items = s.reads.spells.items in
    let e = First path new in
    let o = found f e path t is in
    let places = lists-stand limits bytes f s path o.p o.is_p in
    let stands = places.list in
    let at = (list_span o.p.list).from in
    let l = list_among items o.p stands in
    let empty = empty-is o.p.list o.q.bracket new.node o.list o.is_list in
    let fits = list-fits Nowhere (erase f) path o.q o.is_q in
    let level : LevelListing (erase_listing o.p.list) o.q.bracket = subst (λ x. LevelListing x o.q.bracket) o.same_list (fits.level s.reads.spells.level) in
    let ss = layout_of name items (layout.First at new.bytes) in
    let law = first-law name bytes items s.reads.spells.are_items l (stands.is_inner ∙ empty.none) at stands.from new.bytes writes.items writes.is_new in
    record {
      place = o;
      places = places;
      primitive = layout.First at new.bytes;
      is_primitive = rw o.is_p refl;
      of_list = stands.from;
      placed = bracket-there items l at stands.from;
      writes = writes.utf8;
      left = [];
      right = l.inner;
      notes = remarks l.inner;
      touches = (refl, refl, refl);
      edited = subst (λ ws. Edited bytes items l [] l.inner ss ws (remarks l.inner)) (writes.is_words ∙ sym (empty.words level)) law;
    }
