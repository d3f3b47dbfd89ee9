-- Edits of the value of an element, laid out: it becomes another one, or the array of it.
use Rattle.meson_edit.proofs.Words.{◌≡◌, ℕ, ◌+◌, List, [], ◌∷◌, ◌++◌, length, length-append, Some, Result, Ok, Err, refl, sym, ap, ap₂, subst, ◌∙◌}
use Rattle.meson_edit.proofs.Words.{append_assoc, arith, inl, inr, option_map, append-nil, Lexeme, joined, IsItemList, Word, spoken, Span, one_list, PartIn}
use Rattle.meson_edit.proofs.Words.{Edited, patched_by, layout_of, remarks, IsBehindElement, IsBeforeElement, IsBeforeValue, Primitive, replacement-law}
use Rattle.meson_edit.proofs.Words.{wrap-keeps, wrap-law, expression_words, argument_words, ElementAt, element_at, value_of, words_ahead, inner_words}
use Rattle.meson_edit.proofs.Words.{IsSpannedWithin, Nowhere, Plain, Expression, Argument, plain, named, pair, File, erase, erase_expression, erase_argument}
use Rattle.meson_edit.proofs.Words.{erase_listing, Limits, expression-words-erased, some-injective, joined-lengths, Written, Edit, Replace, Wrap, edited}
use Rattle.meson_edit.proofs.Words.{elements, with_elements, with_value, array_of, WrapsValue, primitive_of, value_span, expression_span, ValueStands}
use Rattle.meson_edit.proofs.Words.{ListPlaces}
use Rattle.meson_lex.specs.declared.kinds.Kind.TheVariants as k
use Rattle.meson_splice.specs.declared.fault.SpliceFault.{SpliceFault}
use Rattle.meson_splice.specs.declared.splice.Splice.{Splice}
use Rattle.meson_splice.specs.Patch.{Patches, patched, then_ok}
use Rattle.meson_splice.proofs.Inverses.{patched-means-patches}
use Rattle.meson_layout.specs.declared.primitive.Primitive.TheVariants as layout
use Rattle.meson_edit.proofs.places.Standing.{lists-stand}
use Rattle.meson_edit.proofs.lists.Cuts.{cut-at}
use Rattle.meson_edit.proofs.lists.Found.{Found, now_list, found, Valued, valued, value-there}
use Rattle.meson_edit.proofs.lists.Places.{list_among, part_among, span-there}
use Rattle.meson_edit.proofs.lists.LaidOut.{Lays}

-- ---- words

-- the words of an element with another value, what comes before a value, and the words of its array
value-words : (a : Argument Span) (w : Expression Span) → value_of a ≡ Some w → (v : Expression Nowhere) → argument_words (with_value v (erase_argument a)) ≡ words_ahead a ++ expression_words v
value-words (plain e) w h v = refl
value-words (named s x e) w h v = refl
value-words (pair s e f) w h v =
    ap (λ u. u ++ ((k.Colon, []) ∷ expression_words v)) (expression-words-erased e) ∙ sym (append_assoc (expression_words e) ((k.Colon, []) ∷ []) (expression_words v))

before-value : (a : Argument Span) (before : List Word) → IsBeforeElement before → IsBeforeValue (before ++ words_ahead a)
before-value (plain e) before h = subst IsBeforeValue (sym (append-nil before)) (inl h)
before-value (named s x e) before h = inr (before ++ (k.Identifier, x.text) ∷ [], sym (append_assoc before ((k.Identifier, x.text) ∷ []) ((k.Colon, []) ∷ [])))
before-value (pair s e f) before h = inr (before ++ expression_words e, sym (append_assoc before (expression_words e) ((k.Colon, []) ∷ [])))

array-words : (v : Expression Nowhere) (behind : List Word) → expression_words (array_of v) ++ behind ≡ (k.OpenSquare, []) ∷ (expression_words v ++ (k.CloseSquare, []) ∷ behind)
array-words v behind = ap (λ w. (k.OpenSquare, []) ∷ ((w ++ (k.CloseSquare, []) ∷ []) ++ behind)) (append-nil (expression_words v)) ∙ ap (λ w. (k.OpenSquare, []) ∷ w) (append_assoc (expression_words v) ((k.CloseSquare, []) ∷ []) behind)

-- ---- a value in its list

-- the value of the n-th element among the items, and the words of the list with another value there
record ValueAt (f : File Span) (items : List Lexeme) (path : List ℕ) (n : ℕ) (change : Expression Nowhere → Expression Nowhere) (e : Edit) (t : Plain) (o : Found f e path t) : Type 0 where
  places : ListPlaces items o.p
  at : ElementAt Span
  is_at : element_at o.p.list n ≡ Some at
  value : Expression Span
  is_value : value_of at.element ≡ Some value
  is_span : value_span f path n ≡ Some (expression_span value)
  part : ValueStands items o.p places.list at value
  ends : IsBeforeValue (spoken part.left)
  begins : IsBehindElement (spoken part.right)
  is_own : spoken part.own ≡ expression_words (erase_expression value)
  words : spoken part.left ++ (expression_words (change (erase_expression value)) ++ spoken part.right) ≡ inner_words (now_list f e path t o)

group : (a b d e : List Word) → (a ++ b) ++ (d ++ e) ≡ a ++ ((b ++ d) ++ e)
group a b d e = simp append_assoc

value-at : (limits : Limits) (bytes : List ℕ) (f : File Span) (s : IsSpannedWithin limits bytes f) (path : List ℕ) (n : ℕ) (change : Expression Nowhere → Expression Nowhere) (e : Edit) (t : Plain)
    → (o : Found f e path t) → Valued change n (elements (erase_listing o.p.list)) o.list → ValueAt f s.reads.spells.items path n change e t o
value-at limits bytes f s path n change e t o v =
    let items = s.reads.spells.items in
    let c = cut-at o.p.list n v.it v.is_it in
    let at = c.at in
    let there = value-there at.element v.value (ap value_of c.same ∙ v.is_value) in
    let w = there.0 in
    let places = lists-stand limits bytes f s path o.p o.is_p in
    let part = places.values n at c.is_at w there.1 in
    let changed = with_value (change v.value) v.it in
    let new = expression_words (change (erase_expression w)) in
    let words : argument_words changed ≡ words_ahead at.element ++ new =
    ap (λ it. argument_words (with_value (change v.value) it)) (sym c.same) ∙ value-words at.element w there.1 (change v.value)
    ∙ ap (λ x. words_ahead at.element ++ expression_words (change x)) (sym there.2) in
    record {
      places = places;
      at = at;
      is_at = c.is_at;
      value = w;
      is_value = there.1;
      is_span = rw (o.is_p, c.there, there.1) refl;
      part = part;
      ends = subst IsBeforeValue (sym part.is_left) (before-value at.element at.before c.ends);
      begins = subst IsBehindElement (sym part.is_right) c.begins;
      is_own = part.is_own ∙ sym (expression-words-erased w);
      words = ap₂ (λ u x. u ++ (new ++ x)) part.is_left part.is_right
          ∙ group at.before (words_ahead at.element) new at.behind
          ∙ ap (λ u. at.before ++ (u ++ at.behind)) (sym words)
          ∙ sym (c.exchanged changed)
          ∙ ap (λ xs. inner_words (with_elements (erase_listing o.p.list) xs)) v.is_now;
    }

-- the value as the layout wants it
abbrev among : (f : File Span) (items : List Lexeme) (path : List ℕ) (n : ℕ) (change : Expression Nowhere → Expression Nowhere) (e : Edit) (t : Plain) (o : Found f e path t)
    → (v : ValueAt f items path n change e t o) → PartIn items (list_among items o.p v.places.list) (expression_span v.value)
among f items path n change e t o v = part_among items o.p v.places.list (expression_span v.value) (v.at.before ++ words_ahead v.at.element) (expression_words v.value) v.at.behind v.part

-- ---- the edits

pub replace-lays : (path : List ℕ) (n : ℕ) (new : Written (Expression Nowhere)) → Lays (Replace path n new) path
replace-lays path n new limits bytes f s name writes t is =
    let items = s.reads.spells.items in
    let e = Replace path n new in
    let o = found f e path t is in
    let v = value-at limits bytes f s path n (λ x. new.node) e t o (valued (λ x. new.node) n (elements (erase_listing o.p.list)) o.list o.is_list) in
    let span = expression_span v.value in
    let l = list_among items o.p v.places.list in
    let part = among f items path n (λ x. new.node) e t o v in
    let ss = layout_of name items (layout.Replace span new.bytes) in
    let notes = remarks v.part.left ++ remarks v.part.right in
    let law = replacement-law name bytes items s.reads.spells.are_items l span part v.ends v.begins new.bytes writes.items writes.is_new in
    record {
      place = o;
      places = v.places;
      primitive = layout.Replace span new.bytes;
      is_primitive = ap (option_map (λ x. layout.Replace x new.bytes)) v.is_span;
      of_list = part;
      placed = span-there items l span part;
      writes = writes.utf8;
      left = v.part.left;
      right = v.part.right;
      notes = notes;
      touches = (v.at, v.is_at, v.value, v.is_value, v.part, refl, refl, refl);
      edited = subst (λ ws. Edited bytes items l v.part.left v.part.right ss ws notes) (ap (λ w. spoken v.part.left ++ (w ++ spoken v.part.right)) writes.is_words ∙ v.words) law;
    }

pub wrap-lays : (path : List ℕ) (n : ℕ) → Lays (Wrap path n) path
wrap-lays path n limits bytes f s name writes t is =
    let items = s.reads.spells.items in
    let e = Wrap path n in
    let o = found f e path t is in
    let v = value-at limits bytes f s path n array_of e t o (valued array_of n (elements (erase_listing o.p.list)) o.list o.is_list) in
    let span = expression_span v.value in
    let l = list_among items o.p v.places.list in
    let part = among f items path n array_of e t o v in
    let ss = layout_of name items (layout.Wrap span) in
    let law = wrap-law name bytes items s.reads.spells.are_items l span part v.ends v.begins in
    let words = ap (λ w. spoken v.part.left ++ ((k.OpenSquare, []) ∷ (w ++ (k.CloseSquare, []) ∷ spoken v.part.right))) v.is_own
    ∙ ap (λ w. spoken v.part.left ++ w) (sym (array-words (erase_expression v.value) (spoken v.part.right))) ∙ v.words in
    record {
      place = o;
      places = v.places;
      primitive = layout.Wrap span;
      is_primitive = ap (option_map layout.Wrap) v.is_span;
      of_list = part;
      placed = span-there items l span part;
      writes = tt;
      left = v.part.left;
      right = v.part.right;
      notes = remarks l.inner;
      touches = (v.at, v.is_at, v.value, v.is_value, v.part, refl, refl, refl);
      edited = subst (λ ws. Edited bytes items l v.part.left v.part.right ss ws (remarks l.inner)) words law;
    }

-- ---- the value that is wrapped

spliced : (bytes text : List ℕ) (s : Splice) → patched_by bytes (s ∷ []) ≡ Ok text → Patches bytes s text
spliced bytes text s is = (patched-means-patches bytes s text).0 (one (patched bytes s) is) where
  one : (r : Result (List ℕ) SpliceFault) → then_ok r (λ next. patched_by next []) ≡ Ok text → r ≡ Ok text
  one (Ok next) is = is
  one (Err e) is = absurd cc

bracketed : (a b own : List ℕ) (x y : ℕ) → (a ++ (x ∷ (own ++ y ∷ []))) ++ b ≡ a ++ ((x ∷ []) ++ (own ++ ((y ∷ []) ++ b)))
bracketed a b own x y = append_assoc a (x ∷ (own ++ y ∷ [])) b ∙ ap (λ l. a ++ x ∷ l) (append_assoc own (y ∷ []) b)

part-long : (a b c : List Lexeme) (o : Lexeme) → length (joined (a ++ o ∷ (b ++ c))) ≡ length (joined (a ++ o ∷ b)) + length (joined c)
part-long a b c o = ap (λ xs. length (joined xs)) (sym (append_assoc a (o ∷ b) c)) ∙ joined-lengths (a ++ o ∷ b) c

pub wraps-value : (path : List ℕ) (n : ℕ) (limits : Limits) (bytes : List ℕ) (f : File Span) → IsSpannedWithin limits bytes f → (items : List Lexeme) → IsItemList bytes items
    → (name : List ℕ) (t : Plain) → edited (Wrap path n) (erase f) ≡ Some t → (primitive : Primitive) → primitive_of f (Wrap path n) ≡ Some primitive
    → (text : List ℕ) → patched_by bytes (layout_of name items primitive) ≡ Ok text → WrapsValue bytes text f path n
wraps-value path n limits bytes f s items are name t is primitive is_primitive text patches =
    let own = s.reads.spells.items in
    let o = found f (Wrap path n) path t is in
    let v = value-at limits bytes f s path n array_of (Wrap path n) t o (valued array_of n (elements (erase_listing o.p.list)) o.list o.is_list) in
    let span = expression_span v.value in
    let l = list_among own o.p v.places.list in
    let part = among f own path n array_of (Wrap path n) t o v in
    let same : layout.Wrap span ≡ primitive = some-injective (layout.Wrap span) primitive (sym (ap (option_map layout.Wrap) v.is_span) ∙ is_primitive) in
    let one = one_list bytes own items s.reads.spells.are_items are in
    let laid = sym (ap₂ (layout_of name) one same) ∙ wrap-keeps name bytes own s.reads.spells.are_items l span part in
    let p = spliced bytes text _ (subst (λ ss. patched_by bytes ss ≡ Ok text) laid patches) in
    let wide = part-long l.front part.left part.own l.open_item in
    record {
      span = span;
      is_span = v.is_span;
      front = p.p;
      value = joined part.own;
      back = p.q;
      old = p.before ∙ append_assoc p.p (joined part.own) p.q;
      from = p.place;
      to = omega (arith, length-append p.p (joined part.own), p.place, part.from, part.to, wide);
      new = p.after ∙ bracketed p.p p.q (joined part.own) 91 93;
    }
