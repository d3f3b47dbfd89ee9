-- An edit of a list, laid out: what its splices leave, and what follows from that.
use Rattle.meson_edit.proofs.Words.{◌≡◌, ℕ, List, [], ◌∷◌, ◌++◌, Some, Result, Ok, sym, ap, ap₂, subst, ◌∙◌, append_assoc, IsUtf8, Lexeme, joined, AreItems}
use Rattle.meson_edit.proofs.Words.{IsItemList, Span, one_list, AreItems-split, Edited, patched_by, WritesUtf8, layout_of, IsPlaced, Primitive, LevelFile}
use Rattle.meson_edit.proofs.Words.{opens, closes, ListAt, list_at, list_span, inner_words, Spells, IsSpannedWithin, IsListText, Plain, File, erase, Limits}
use Rattle.meson_edit.proofs.Words.{open-bracket, close-bracket, listed, exchanged-items, some-injective, Edit, edited, Touches, KeepsList, MakesText, Spelled}
use Rattle.meson_edit.proofs.Words.{WritesList, primitive_of, Writes, ListPlaces}
use Rattle.meson_layout.specs.Local.{IsOfList, IsReadyIn}
use Rattle.meson_edit.proofs.exchange.Cuts.{utf8-cut}
use Rattle.meson_edit.proofs.exchange.Lists.{joined-list, lists-exchange}
use Rattle.meson_edit.proofs.Coding.{coding-law, texts-law}
use Rattle.meson_edit.proofs.lists.Found.{Found, now_list}
use Rattle.meson_edit.proofs.lists.Places.{list_among, cut-out}

-- The edit stands at a place among the items, and its splices leave, between the brackets of its list, the words of the list after the edit.
pub record LaidOut (bytes : List ℕ) (f : File Span) (items : List Lexeme) (name : List ℕ) (e : Edit) (path : List ℕ) (t : Plain) : Type 0 where
  pub place : Found f e path t
  pub places : ListPlaces items place.p
  pub primitive : Primitive
  pub is_primitive : primitive_of f e ≡ Some primitive
  pub of_list : IsOfList items (list_among items place.p places.list) primitive
  pub placed : IsPlaced primitive items
  pub writes : WritesUtf8 primitive
  pub left : List Lexeme
  pub right : List Lexeme
  pub notes : List Lexeme
  pub touches : Touches items place.p places.list e left right notes
  pub edited : Edited bytes items (list_among items place.p places.list) left right (layout_of name items primitive) (inner_words (now_list f e path t place)) notes

-- An edit of this form can be laid out wherever it has its place.
abbrev pub Lays : Edit → List ℕ → Type 0
Lays e path =
    (limits : Limits) (bytes : List ℕ) (f : File Span) (s : IsSpannedWithin limits bytes f) (name : List ℕ)
    → Writes e → (t : Plain) → edited e (erase f) ≡ Some t → LaidOut bytes f s.reads.spells.items name e path t

-- ---- the new text

-- between the same brackets stands the text of another list
list-text : (bytes : List ℕ) (f : File Span) (items : List Lexeme) (name : List ℕ) (e : Edit) (path : List ℕ) (t : Plain) (o : LaidOut bytes f items name e path t)
    → IsListText o.edited.text o.place.q.bracket (inner_words (now_list f e path t o.place))
list-text bytes f items name e path t o =
    let x = o.place in
    let d = o.edited in
    record {
      open_item = o.places.list.open_item;
      inner = d.inner;
      close_item = o.places.list.close_item;
      are_items = d.are_items;
      is_open = o.places.list.is_open ∙ ap opens (sym x.same_bracket);
      is_close = o.places.list.is_close ∙ ap closes (sym x.same_bracket);
      is_inner = d.says;
    }

-- the text reads again
makes : (limits : Limits) (bytes : List ℕ) (f : File Span) (s : IsSpannedWithin limits bytes f) (name : List ℕ) (e : Edit) (path : List ℕ) (t : Plain)
    → LaidOut bytes f s.reads.spells.items name e path t → LevelFile t → MakesText bytes f s.reads.spells.items name e t
makes limits bytes f s name e path t o level =
    let items = s.reads.spells.items in
    let are = s.reads.spells.are_items in
    let x = o.place in
    let d = o.edited in
    let c = cut-out items x.p o.places.list bytes are in
    let front = joined o.places.list.left in
    let back = joined o.places.list.right in
    let spells =
    lists-exchange limits bytes f s path x.p x.is_p x.q x.is_q (now_list f e path t x) d.text (list-text bytes f items name e path t o) (subst LevelFile (sym x.is_t) level)
    front c.was back c.parts c.from c.to in
    record {
      primitive = o.primitive;
      is_primitive = o.is_primitive;
      placed = o.placed;
      text = front ++ (d.text ++ back);
      patches = d.patches;
      utf8 = coding-law name bytes items are s.reads.source.utf8 o.primitive o.writes (front ++ (d.text ++ back)) d.patches;
      texts = texts-law name bytes items are s.reads.source.utf8 o.primitive o.writes;
      spells = subst (Spells (front ++ (d.text ++ back))) x.is_t spells;
    }

pub spelled : (e : Edit) (path : List ℕ) → Lays e path → Spelled e
spelled e path lays limits bytes f s items are name writes t is level =
    subst (λ xs. MakesText bytes f xs name e t) (one_list bytes s.reads.spells.items items s.reads.spells.are_items are)
    (makes limits bytes f s name e path t (lays limits bytes f s name writes t is) level)

-- ---- the list that is looked at

-- the list stands at its span, and the edit is one of it
pub ready : (e : Edit) (path : List ℕ) → Lays e path → (limits : Limits) (bytes : List ℕ) (f : File Span) → IsSpannedWithin limits bytes f → Writes e → (t : Plain) → edited e (erase f) ≡ Some t
    → (p : ListAt Span) → list_at f path ≡ Some p → (primitive : Primitive) → primitive_of f e ≡ Some primitive → IsReadyIn bytes (list_span p.list) primitive
ready e path lays limits bytes f s writes t is p is_p primitive is_primitive =
    let o = lays limits bytes f s [] writes t is in
    let l = o.places.list in
    let same_list = some-injective o.place.p p (sym o.place.is_p ∙ is_p) in
    let same_primitive = some-injective o.primitive primitive (sym o.is_primitive ∙ is_primitive) in
    subst (λ q. IsReadyIn bytes (list_span q.list) primitive) same_list (subst (IsReadyIn bytes (list_span o.place.p.list)) same_primitive (record {
      items = s.reads.spells.items;
      are_items = s.reads.spells.are_items;
      list_in = list_among s.reads.spells.items o.place.p l;
      span = ap₂ (λ from to. record { from = from; to = to }) l.from l.to;
      of_list = o.of_list;
    }))

-- ---- what is written

-- an answer is one value
one-answer : {A B : Type 0} (r : Result A B) (x y : A) → r ≡ Ok x → r ≡ Ok y → x ≡ y
one-answer r x y h g = let same : Ok x ≡ r = sym h in let both = same ∙ g in cc

-- the text of a list that stands between items of a text in UTF-8 is in UTF-8
list-coded : (bytes : List ℕ) (f : File Span) (items : List Lexeme) → IsItemList bytes items → (name : List ℕ) (e : Edit) (path : List ℕ) (t : Plain) (o : LaidOut bytes f items name e path t)
    → IsUtf8 (joined o.places.list.left ++ (o.edited.text ++ joined o.places.list.right)) → IsUtf8 o.edited.text
list-coded bytes f items are name e path t o utf8 =
    let l = o.places.list in
    let d = o.edited in
    let b = o.place.p.bracket in
    let own = listed l.open_item d.inner l.close_item [] in
    let whole : joined (l.left ++ listed l.open_item d.inner l.close_item l.right) ≡ joined l.left ++ (d.text ++ joined l.right) =
    joined-list l.left l.open_item d.inner l.close_item l.right ∙ ap (λ text. joined l.left ++ (text ++ joined l.right)) d.are_items.joins in
    let each =
    exchanged-items (opens b) (closes b) (open-bracket b) (close-bracket b) l.left l.inner l.right d.inner l.open_item l.close_item l.open_item l.close_item l.is_open l.is_close l.is_open l.is_close
    (subst (λ xs. AreItems xs []) l.parts are.each) d.are_items.each in
    let behind = utf8-cut l.left (listed l.open_item d.inner l.close_item l.right) each (subst IsUtf8 (sym whole) utf8) in
    let apart : listed l.open_item d.inner l.close_item l.right ≡ own ++ l.right = ap (λ xs. l.open_item ∷ xs) (sym (append_assoc d.inner (l.close_item ∷ []) l.right)) in
    let cut = utf8-cut own l.right (subst (λ xs. AreItems xs []) apart (AreItems-split l.left (listed l.open_item d.inner l.close_item l.right) [] each).1) (subst (λ xs. IsUtf8 (joined xs)) apart behind.1) in
    subst IsUtf8 d.are_items.joins cut.0

-- what the edit leaves of the text
abbrev Leaves : Edit → List ℕ → ((bytes text : List ℕ) → File Span → List Lexeme → ListAt Span → Plain → Type 0) → Type 0
Leaves e path P =
    (limits : Limits) (bytes : List ℕ) (f : File Span) → IsSpannedWithin limits bytes f → (items : List Lexeme) → IsItemList bytes items → (name : List ℕ)
    → Writes e → (t : Plain) → edited e (erase f) ≡ Some t → (p : ListAt Span) → list_at f path ≡ Some p
    → (primitive : Primitive) → primitive_of f e ≡ Some primitive → (text : List ℕ) → patched_by bytes (layout_of name items primitive) ≡ Ok text
    → P bytes text f items p t

-- what is laid out is the text, and its list is the one that the path names
record Left (bytes text : List ℕ) (f : File Span) (items : List Lexeme) (name : List ℕ) (e : Edit) (path : List ℕ) (t : Plain) (p : ListAt Span) : Type 0 where
  laid : LaidOut bytes f items name e path t
  same : laid.place.p ≡ p
  result : text ≡ joined laid.places.list.left ++ (laid.edited.text ++ joined laid.places.list.right)

left-there : (bytes : List ℕ) (f : File Span) (items : List Lexeme) (name : List ℕ) (e : Edit) (path : List ℕ) (t : Plain) (o : LaidOut bytes f items name e path t)
    → (p : ListAt Span) → list_at f path ≡ Some p → (primitive : Primitive) → primitive_of f e ≡ Some primitive
    → (text : List ℕ) → patched_by bytes (layout_of name items primitive) ≡ Ok text → Left bytes text f items name e path t p
left-there bytes f items name e path t o p is_p primitive is_primitive text patches =
    let same_primitive : o.primitive ≡ primitive = some-injective o.primitive primitive (sym o.is_primitive ∙ is_primitive) in
    let now : List ℕ = joined o.places.list.left ++ (o.edited.text ++ joined o.places.list.right) in
    record {
      laid = o;
      same = some-injective o.place.p p (sym o.place.is_p ∙ is_p);
      result = one-answer (patched_by bytes (layout_of name items primitive)) text now patches (ap (λ x. patched_by bytes (layout_of name items x)) (sym same_primitive) ∙ o.edited.patches);
    }

left-by : (e : Edit) (path : List ℕ) → Lays e path → (limits : Limits) (bytes : List ℕ) (f : File Span) → IsSpannedWithin limits bytes f → (items : List Lexeme) → IsItemList bytes items
    → (name : List ℕ) → Writes e → (t : Plain) → edited e (erase f) ≡ Some t → (p : ListAt Span) → list_at f path ≡ Some p
    → (primitive : Primitive) → primitive_of f e ≡ Some primitive → (text : List ℕ) → patched_by bytes (layout_of name items primitive) ≡ Ok text
    → Left bytes text f items name e path t p
left-by e path lays limits bytes f s items are name writes t is p is_p primitive is_primitive text patches =
    let same : s.reads.spells.items ≡ items = one_list bytes s.reads.spells.items items s.reads.spells.are_items are in
    let o = subst (λ xs. LaidOut bytes f xs name e path t) same (lays limits bytes f s name writes t is) in
    left-there bytes f items name e path t o p is_p primitive is_primitive text patches

pub written : (e : Edit) (path : List ℕ) → Lays e path → Leaves e path (λ bytes text f items p t. WritesList bytes text f path p t)
written e path lays limits bytes f s items are name writes t is p is_p primitive is_primitive text patches =
    let there = left-by e path lays limits bytes f s items are name writes t is p is_p primitive is_primitive text patches in
    let o = there.laid in
    let x = o.place in
    let c = cut-out items x.p o.places.list bytes are in
    let d = o.edited in
    let now : List ℕ = joined o.places.list.left ++ (d.text ++ joined o.places.list.right) in
    subst (λ p. WritesList bytes text f path p t) there.same (record {
      q = x.q;
      is_q = x.is_q;
      bracket = x.same_bracket;
      list = now_list f e path t x;
      is_tree = x.is_t;
      front = joined o.places.list.left;
      was = c.was;
      now = d.text;
      back = joined o.places.list.right;
      old = c.parts;
      new = there.result;
      from = c.from;
      to = c.to;
      is_text = list-text bytes f items name e path t o;
      utf8 = list-coded bytes f items are name e path t o (coding-law name bytes items are s.reads.source.utf8 o.primitive o.writes now d.patches);
    })

pub kept : (e : Edit) (path : List ℕ) → Lays e path → Leaves e path (λ bytes text f items p t. KeepsList bytes text items e p)
kept e path lays limits bytes f s items are name writes t is p is_p primitive is_primitive text patches =
    let there = left-by e path lays limits bytes f s items are name writes t is p is_p primitive is_primitive text patches in
    let o = there.laid in
    subst (KeepsList bytes text items e) there.same (record {
      places = o.places;
      left = o.left;
      right = o.right;
      notes = o.notes;
      touches = o.touches;
      inner = o.edited.inner;
      now = o.edited.text;
      are_items = o.edited.are_items;
      is_text = there.result;
      keeps = o.edited.keeps;
      comments = o.edited.noted;
    })
