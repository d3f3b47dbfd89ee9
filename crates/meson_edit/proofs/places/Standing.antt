-- Where the nodes of a spanned tree stand among the items of its text.
use Rattle.meson_edit.proofs.Words.{◌≡◌, ℕ, Bool, true, false, List, [], ◌∷◌, ◌++◌, length, Some, refl, sym, ap, ap₂, subst, ◌∙◌, append_assoc, arith}
use Rattle.meson_edit.proofs.Words.{append-nil, Lexeme, joined, Token, words, spots, end_after, closing_at, located, Word, State, start, step, after, emitted}
use Rattle.meson_edit.proofs.Words.{closing, Span, words-append, words-spots, expression_words, argument_words, statement_words, opens, closes, Sort}
use Rattle.meson_edit.proofs.Words.{of_expression, of_statement, of_block, Node, ElementAt, element_at, words_ahead, list_span, inner_words, Hole, reach}
use Rattle.meson_edit.proofs.Words.{list_in, ListAt, list_within, list_of_node, list_at, block_of, IsSpannedWithin, Covers, One, SpellsFile, Block, File, file}
use Rattle.meson_edit.proofs.Words.{Limits, statement-words, expression-words, argument-words, map-some, and-then-some, opens-own, closes-own, covers-from}
use Rattle.meson_edit.proofs.Words.{covers-to, ElementSpelled, list-spelled, cut-pair, join-words, joined-lengths, silent-closing, silent-nothing, NoLine}
use Rattle.meson_edit.proofs.Words.{no-line-append, front-no-line, back-no-line, spoken-is, expression-no-line, argument-no-line, inner-no-line, IsSilent}
use Rattle.meson_edit.proofs.Words.{expression_span, argument_span, statement_span, StandsAmongItems, NodeStands, ListStands, PartStands, ListPlaces}
use Rattle.meson_edit.proofs.places.Owned.{Bounded, cut-own, right-words}
use Rattle.meson_edit.proofs.places.Bounds.{bounded-expression, bounded-argument, bounded-statement, expression-covers, argument-covers, statement-covers}
use Rattle.meson_edit.proofs.places.Inside.{SpellsNode, Inside}
use Rattle.meson_edit.proofs.places.InStatements.{reach-inside}
use Rattle.meson_edit.proofs.places.Elements.{list-inside, element-words}
use Rattle.meson_edit.proofs.places.Values.{value-spelled, ahead-no-line, apart}

pub closing-words : (fresh : Bool) (end : ℕ) → words (closing_at fresh end) ≡ closing fresh
closing-words true end = refl
closing-words false end = refl

-- ---- parts of a list

-- the tokens that items inside a list give, cut into three
part-stands : (items : List Lexeme) (p : ListAt Span) (l : ListStands items p) (state : State) (at : ℕ) (inner : List Token)
    → at ≡ length (joined (l.left ++ l.open_item ∷ [])) → spots state at at l.inner ≡ inner
    → (s : Span) (front own back : List Token) (before w behind : List Word) → inner ≡ front ++ (own ++ back) → Covers s own → Bounded own
    → words front ≡ before → words own ≡ w → words back ≡ behind → NoLine before → NoLine w → NoLine behind → PartStands items p l s before w behind
part-stands items p l state at inner within is s front own back before w behind parts c b f o k none-before none-in none-behind =
    let i = cut-own state at at l.inner [] silent-nothing front own back b (append-nil (spots state at at l.inner) ∙ is ∙ parts) in
    let open_part = l.left ++ l.open_item ∷ [] in
    let n0 = ap (λ x. length (joined x)) (sym (append_assoc l.left (l.open_item ∷ []) i.left)) ∙ joined-lengths open_part i.left in
    let n1 = ap (λ x. length (joined x)) (sym (append_assoc l.left (l.open_item ∷ []) (i.left ++ i.mine))) ∙ joined-lengths open_part (i.left ++ i.mine) in
    let e0 = covers-from s own b.first b.rest c b.begins in
    let e1 = covers-to s own b.front b.last c b.ends in
    let g0 = i.from in
    let g1 = i.to in
    let left-is = sym (words-spots i.left state at at) ∙ ap words i.is_left ∙ f in
    record {
      left = i.left;
      own = i.mine;
      right = i.right;
      parts = i.parts;
      from = omega arith;
      to = omega arith;
      is_left = spoken-is state i.left before none-before left-is;
      is_own = spoken-is (after state i.left) i.mine w none-in (i.is_mine ∙ o);
      is_right = spoken-is (after state (i.left ++ i.mine)) i.right behind none-behind (sym (append-nil (emitted (after state (i.left ++ i.mine)) i.right)) ∙ i.is_right ∙ k);
      tight = i.tight;
    }

-- ---- lists

-- the tokens of the list that a path names, where those of its array or call are own
record ListTokens (p : ListAt Span) (before behind : List Word) (own : List Token) : Type 0 where
  depth : ℕ
  front : List Token
  opening : List Token
  inner : List Token
  close : List Token
  parts : own ≡ front ++ (opening ++ (inner ++ close))
  is_front : before ++ words front ≡ p.before
  is_back : behind ≡ p.behind
  covers : Covers (list_span p.list) (opening ++ (inner ++ close))
  is_opening : One (opens p.bracket) opening
  is_closing : One (closes p.bracket) close
  is_inner : words inner ≡ inner_words p.list
  elements : (n : ℕ) (e : ElementAt Span) → element_at p.list n ≡ Some e → ElementSpelled p.bracket depth inner e

list-tokens : (sort : Sort) (x : Node sort Span) (f : File Span) (before behind : List Word) (back : Node sort Span → Block Span) (p : ListAt Span) (d last : ℕ) (own : List Token)
    → list_of_node Span sort x f before behind back ≡ Some p → SpellsNode sort x d last own → ListTokens p before behind own
list-tokens of_expression x f before behind back p d last own h sp =
    let o = map-some (list_within f before behind back) (list_in x) p h in
    let i = list-inside x o.0 d own o.1 sp in
    let l = list-spelled o.0.list o.0.bracket d i.own i.spelled in
    subst (λ p. ListTokens p before behind own) o.2 (record {
      depth = d;
      front = i.front;
      opening = l.opening;
      inner = l.inner;
      close = l.closing;
      parts = i.parts ∙ ap (λ b. i.front ++ b) l.brackets;
      is_front = ap (λ w. before ++ w) i.is_front;
      is_back = refl;
      covers = subst (Covers (list_span o.0.list)) l.brackets l.covers;
      is_opening = l.is_opening;
      is_closing = l.is_closing;
      is_inner = l.is_inner;
      elements = l.elements;
    })
list-tokens of_statement x f before behind back p d last own h sp = absurd cc
list-tokens of_block x f before behind back p d last own h sp = absurd cc

-- no word around an element is a line end
element-quiet : (p : ListAt Span) (n : ℕ) (e : ElementAt Span) → element_at p.list n ≡ Some e → NoLine e.before × NoLine e.behind
element-quiet p n e h =
    let all = subst NoLine (element-words Span p.list n e h) (inner-no-line Span p.list) in
    (front-no-line e.before (argument_words e.element ++ e.behind) all, back-no-line (argument_words e.element) e.behind (back-no-line e.before (argument_words e.element ++ e.behind) all))

brackets-group : {A : Type 0} (a b i z : List A) (o c : A) → a ++ ((b ++ ((o ∷ []) ++ (i ++ (c ∷ [])))) ++ z) ≡ (a ++ b) ++ o ∷ (i ++ c ∷ z)
brackets-group a b i z o c = simp append_assoc

module _ (items : List Lexeme) where
  ending : List Token
  ending = closing_at (after start items).fresh (end_after 0 0 items)

  quiet : IsSilent ending
  unfolding ending
  quiet = silent-closing (after start items).fresh (end_after 0 0 items)

  own-stands : (s : Span) (front own back : List Token) (before w behind : List Word) → located items ≡ front ++ (own ++ back) → Covers s own → Bounded own
      → words front ≡ before → words own ≡ w → words back ≡ behind → StandsAmongItems items s before w behind
  unfolding ending
  own-stands s front own back before w behind h c b f o k =
      let i = cut-own start 0 0 items ending quiet front own back b h in
      let e0 = covers-from s own b.first b.rest c b.begins in
      let e1 = covers-to s own b.front b.last c b.ends in
      let g0 = i.from in
      let g1 = i.to in
      record {
        left = i.left;
        own = i.mine;
        right = i.right;
        parts = i.parts;
        from = omega arith;
        to = omega arith;
        is_left = sym (words-spots i.left start 0 0) ∙ ap words i.is_left ∙ f;
        is_own = i.is_mine ∙ o;
        is_right = ap (λ v. emitted (after start (i.left ++ i.mine)) i.right ++ v) (sym (closing-words (after start items).fresh (end_after 0 0 items))) ∙ i.is_right ∙ k;
        tight = i.tight;
      }

  pub node-stands : (sort : Sort) (x : Node sort Span) (before behind : List Word) → Inside sort x before behind (located items) → NodeStands items sort x before behind
  node-stands of_expression x before behind u =
      own-stands (expression_span x) u.front u.own u.back before (expression_words x) behind u.parts (expression-covers x u.depth u.own u.spelled) (bounded-expression x u.depth u.own u.spelled)
      u.is_front (expression-words x u.depth u.own u.spelled) u.is_back
  node-stands of_statement x before behind u =
      own-stands (statement_span x) u.front u.own u.back before (statement_words x) behind u.parts (statement-covers x u.depth u.own u.spelled) (bounded-statement x u.depth u.own u.spelled)
      u.is_front (statement-words x u.depth u.own u.spelled) u.is_back
  node-stands of_block x before behind u = tt

  -- the list with the items that its brackets' tokens come from
  record ListFound (p : ListAt Span) (inner : List Token) : Type 0 where
    list : ListStands items p
    state : State
    at : ℕ
    is_at : at ≡ length (joined (list.left ++ list.open_item ∷ []))
    is_inner : spots state at at list.inner ≡ inner

  list-found : (p : ListAt Span) (before behind : List Word) (front own back : List Token) → located items ≡ front ++ (own ++ back) → words front ≡ before → words back ≡ behind
      → (t : ListTokens p before behind own) → ListFound p t.inner
  unfolding ending
  list-found p before behind front own back h f k t =
      let o = t.is_opening.token in
      let c = t.is_closing.token in
      let apart : located items ≡ (front ++ t.front) ++ o ∷ (t.inner ++ c ∷ back) =
      h ∙ ap (λ x. front ++ (x ++ back)) (t.parts ∙ ap₂ (λ x y. t.front ++ (x ++ (t.inner ++ y))) t.is_opening.alone t.is_closing.alone) ∙ brackets-group front t.front t.inner back o c in
      let i = cut-pair start 0 0 items ending quiet (front ++ t.front) o t.inner c back (λ e. opens-own p.bracket (sym t.is_opening.is ∙ e)) (λ e. closes-own p.bracket (sym t.is_closing.is ∙ e)) apart in
      let all = t.opening ++ (t.inner ++ t.close) in
      let begins : all ≡ o ∷ (t.inner ++ t.close) = ap (λ x. x ++ (t.inner ++ t.close)) t.is_opening.alone in
      let ends : all ≡ (o ∷ t.inner) ++ c ∷ [] = ap₂ (λ x y. x ++ (t.inner ++ y)) t.is_opening.alone t.is_closing.alone in
      let e0 = covers-from (list_span p.list) all o (t.inner ++ t.close) t.covers begins in
      let e1 = covers-to (list_span p.list) all (o ∷ t.inner) c t.covers ends in
      let g0 = i.from in
      let g1 = i.to in
      let g2 = i.within in
      let whole = i.left ++ i.first ∷ (i.inner ++ i.last ∷ []) in
      record {
        list = record {
          left = i.left;
          open_item = i.first;
          inner = i.inner;
          close_item = i.last;
          right = i.right;
          parts = i.parts;
          is_open = sym i.is_first ∙ t.is_opening.is;
          is_close = sym i.is_last ∙ t.is_closing.is;
          from = omega arith;
          to = omega arith;
          is_left = sym (words-spots i.left start 0 0) ∙ ap words i.is_left ∙ words-append front t.front ∙ ap (λ w. w ++ words t.front) f ∙ t.is_front;
          is_inner = spoken-is (step (after start i.left) i.first) i.inner (inner_words p.list) (inner-no-line Span p.list)
              (sym (words-spots i.inner (step (after start i.left) i.first) o.to o.to) ∙ ap words i.is_inner ∙ t.is_inner);
          is_right = ap (λ v. emitted (after start whole) i.right ++ v) (sym (closing-words (after start items).fresh (end_after 0 0 items)))
              ∙ right-words (after start whole) c.to i.right ending back i.is_right ∙ k ∙ t.is_back;
        };
        state = step (after start i.left) i.first;
        at = o.to;
        is_at = omega arith;
        is_inner = i.is_inner;
      }

  list-places : (p : ListAt Span) (before behind : List Word) (own : List Token) (t : ListTokens p before behind own) → ListFound p t.inner → ListPlaces items p
  list-places p before behind own t l = record {
    list = l.list;
    elements = λ n e h.
        let x = t.elements n e h in
        let none = element-quiet p n e h in
        part-stands items p l.list l.state l.at t.inner l.is_at l.is_inner (argument_span e.element) x.front x.own x.back e.before (argument_words e.element) e.behind x.parts
        (argument-covers e.element p.bracket x.seen t.depth x.own x.spelled) (bounded-argument e.element p.bracket x.seen t.depth x.own x.spelled)
        x.is_front (argument-words e.element p.bracket x.seen t.depth x.own x.spelled) x.is_back none.0 (argument-no-line Span e.element) none.1;
    values = λ n e h v is.
        let x = t.elements n e h in
        let none = element-quiet p n e h in
        let y = value-spelled e.element v p.bracket x.seen t.depth x.own is x.spelled in
        part-stands items p l.list l.state l.at t.inner l.is_at l.is_inner (expression_span v) (x.front ++ y.ahead) y.own x.back (e.before ++ words_ahead e.element) (expression_words v) e.behind
        (x.parts ∙ ap (λ z. x.front ++ (z ++ x.back)) y.parts ∙ apart x.front y.ahead y.own x.back)
        (expression-covers v y.depth y.own y.spelled) (bounded-expression v y.depth y.own y.spelled)
        (join-words x.front y.ahead e.before (words_ahead e.element) x.is_front y.is_ahead) (expression-words v y.depth y.own y.spelled) x.is_back
        (no-line-append e.before (words_ahead e.element) none.0 (ahead-no-line Span e.element v is)) (expression-no-line Span v) none.1;
  }

-- ---- files

pub block-spelled : (f : File Span) (len d : ℕ) (ts : List Token) → SpellsFile f len d ts → SpellsNode of_block (block_of f) d 0 ts
block-spelled (file s b) len d ts h = h.2

pub nodes-stand : (limits : Limits) (bytes : List ℕ) (f : File Span) (s : IsSpannedWithin limits bytes f) (path : List ℕ) (h : Hole Span (Block Span)) → reach Span of_block (block_of f) path ≡ Some h
    → NodeStands s.reads.spells.items h.sort h.inside h.before h.behind
nodes-stand limits bytes f s path h is =
    let items = s.reads.spells.items in
    let ts = located items in
    node-stands items h.sort h.inside h.before h.behind (reach-inside of_block (block_of f) path limits.depth 0 ts h is (block-spelled f (length bytes) limits.depth ts s.stands))

pub lists-stand : (limits : Limits) (bytes : List ℕ) (f : File Span) (s : IsSpannedWithin limits bytes f) (path : List ℕ) (p : ListAt Span) → list_at f path ≡ Some p → ListPlaces s.reads.spells.items p
lists-stand limits bytes f s path p is =
    let items = s.reads.spells.items in
    let ts = located items in
    let o = and-then-some (λ h. list_of_node Span h.sort h.inside f h.before h.behind h.back) (reach Span of_block (block_of f) path) p is in
    let h = o.0 in
    let u = reach-inside of_block (block_of f) path limits.depth 0 ts h o.1 (block-spelled f (length bytes) limits.depth ts s.stands) in
    let t = list-tokens h.sort h.inside f h.before h.behind h.back p u.depth u.last u.own o.2 u.spelled in
    list-places items p h.before h.behind u.own t (list-found items p h.before h.behind u.front u.own u.back u.parts u.is_front u.is_back t)
