-- The lines of a statement: they stand for it, and others may be put before them or after them.
use Rattle.meson_edit.proofs.Words.{◌≡◌, ℕ, zero, suc, List, [], ◌∷◌, ◌++◌, length, take, drop, Option, Some, None, option_map, refl, sym, ap, ap₂, subst, ◌∙◌}
use Rattle.meson_edit.proofs.Words.{append_assoc, append-nil, inl, inr, ◌⊎◌, Lexeme, joined, IsItemList, AreItems, Word, new_line, State, start, after, emitted}
use Rattle.meson_edit.proofs.Words.{closing, significant, Span, after-append, emitted-append, statement_words, Hole, reach, of_block, block_of, nth, IsSpannedWithin}
use Rattle.meson_edit.proofs.Words.{Nowhere, Statement, Statements, no_statements, statement, statement_list, Block, block, File, erase, erase_block, erase_statements}
use Rattle.meson_edit.proofs.Words.{Limits, statement-words-erased, some-injective, BlockAt, block_at, statement_in, EndsItsLine, HasNoLineEnd, in_line, words_around, erase_front, Kind}
use Rattle.meson_edit.proofs.Words.{statement_span, StandsAmongItems, WordsAround, Plain, Spells, joined-append}
use Rattle.meson_lex.specs.declared.kinds.Kind.TheVariants as k
use Rattle.meson_edit.specs.ExchangedLines.{statements_in, statements_words_of, words_before, AreLinesOf, IsRestOfLine, LinesThere, IsLinesText, LinesComeAndGo, exchanged_in}
use Rattle.meson_edit.proofs.paths.Erased.{nodes-erase, blocks-erase}
use Rattle.meson_edit.proofs.exchange.States.{Lines, lines-append}
use Rattle.meson_edit.proofs.exchange.StatementLines.{statement-flat}
use Rattle.meson_edit.proofs.exchange.LineWords.{told, told-append}
use Rattle.meson_edit.proofs.exchange.Gone.{left-state, own-words, own-state, behind-told}
use Rattle.meson_edit.proofs.exchange.Removed.{fits, found, stands, cut-items, cut-own}
use Rattle.meson_edit.proofs.lines.Cuts.{Stays, line-head, line-rest}
use Rattle.meson_edit.proofs.lines.Splits.{last-line, first-line}
use Rattle.meson_edit.proofs.lines.Lists.{removal-exchanges}
use Rattle.meson_edit.proofs.lines.Exchanged.{lines-exchanged}

-- ---- words in the tree without spans

words-seen : {S T : Type 0} (o : Option (Hole S T)) → option_map (λ h. h.before) o ≡ option_map (λ (w : WordsAround S). w.before) (option_map words_around o)
words-seen (Some h) = refl
words-seen None = refl

before-seen : (o : Option (Hole Span (Block Span)))
    → option_map (λ (w : WordsAround Nowhere). w.before) (option_map (λ h. erase_front (words_around h)) o) ≡ option_map (λ h. h.before) o
before-seen (Some h) = refl
before-seen None = refl

before-erased : (f : File Span) (path : List ℕ) → words_before (erase f) path ≡ words_before f path
before-erased f path =
    words-seen (reach Nowhere of_block (block_of (erase f)) path) ∙ ap (option_map (λ (w : WordsAround Nowhere). w.before)) (nodes-erase f path)
    ∙ before-seen (reach Span of_block (block_of f) path)

front-erased : (n : ℕ) (list : Statements Span) → statements_words_of (take n (statement_list (erase_statements list))) ≡ statements_words_of (take n (statement_list list))
front-erased zero list = refl
front-erased (suc n) no_statements = refl
front-erased (suc n) (statement s more) = ap₂ (λ u v. u ++ (new_line ∷ v)) (statement-words-erased s) (front-erased n more)

one-erased : (n : ℕ) (list : Statements Span) (x : Statement Span) → nth (statement_list list) n ≡ Some x
    → statements_words_of (take 1 (drop n (statement_list (erase_statements list)))) ≡ statement_words x ++ new_line ∷ []
one-erased n no_statements x is = absurd cc
one-erased zero (statement s more) x is = ap (λ w. w ++ new_line ∷ []) (statement-words-erased s ∙ ap statement_words (some-injective _ _ is))
one-erased (suc n) (statement s more) x is = one-erased n more x is

one-more : {S : Type 0} (n : ℕ) (list : List (Statement S)) → statements_words_of (take (suc n) list) ≡ statements_words_of (take n list) ++ statements_words_of (take 1 (drop n list))
one-more zero [] = refl
one-more (suc n) [] = refl
one-more zero (s ∷ more) = refl
one-more (suc n) (s ∷ more) =
    ap (λ w. statement_words s ++ (new_line ∷ w)) (one-more n more)
    ∙ sym (append_assoc (statement_words s) (new_line ∷ statements_words_of (take n more)) (statements_words_of (take 1 (drop n more))))

block-front : (n : ℕ) (b : Block Span) → statements_words_of (take n (statements_in (erase_block b))) ≡ statements_words_of (take n (statements_in b))
block-front n (block s list) = front-erased n list

block-one : (n : ℕ) (b : Block Span) (x : Statement Span) → statement_in b n ≡ Some x
    → statements_words_of (take 1 (drop n (statements_in (erase_block b)))) ≡ statement_words x ++ new_line ∷ []
block-one n (block s list) x is = one-erased n list x is

-- ---- the end of a line

line-told : (rest back : List Lexeme) (ws : List Word) → IsRestOfLine rest back → told in_line (rest ++ back) ≡ new_line ∷ ws → told in_line rest ≡ new_line ∷ []
line-told rest back ws (inl e) h =
    let row = e.0 in
    let end = e.1 in
    let whole : told in_line (row ++ end ∷ back) ≡ new_line ∷ ws = ap (told in_line) (sym (ap (λ l. l ++ back) e.4 ∙ append_assoc row (end ∷ []) back)) ∙ h in
    let t = line-rest row (end ∷ back) in_line ws e.2 whole in
    ap (told in_line) e.4 ∙ told-append in_line row (end ∷ []) ∙ ap₂ (λ w (q : State). w ++ told q (end ∷ [])) t.silent t.same ∙ line-end end e.3
  where
    line-end : (x : Lexeme) → x.kind ≡ k.LineEnd → told in_line (x ∷ []) ≡ new_line ∷ []
    line-end x is = by-kind x.kind x.text is
      where
        by-kind : (κ : Kind) (text : List ℕ) → κ ≡ k.LineEnd → told in_line (record { kind = κ; text = text } ∷ []) ≡ new_line ∷ []
        by-kind k.LineEnd text is = refl
        by-kind _ text is = absurd cc
line-told rest back ws (inr e) h =
    let t = line-rest rest back in_line ws e.0 h in
    ap₂ (λ w (q : State). w ++ closing q.fresh) t.silent t.same

ends-line : (ahead rest back : List Lexeme) → IsRestOfLine rest back → EndsItsLine (ahead ++ rest) ⊎ (back ≡ [])
ends-line ahead rest back (inl e) = inl (inr (ahead ++ e.0, e.1, e.3, ap (λ l. ahead ++ l) e.4 ∙ sym (append_assoc ahead e.0 (e.1 ∷ []))))
ends-line ahead rest back (inr e) = inr e.1

module _ (limits : Limits) (bytes : List ℕ) (f : File Span) (s : IsSpannedWithin limits bytes f) (path : List ℕ) (b : BlockAt Span) (is : block_at f path ≡ Some b)
    (q : BlockAt Nowhere) (plain-is : block_at (erase f) path ≡ Some q) (n : ℕ) (x : Statement Span) (at : statement_in b.inside n ≡ Some x)
    (left own right : List Lexeme) (are : IsItemList bytes (left ++ (own ++ right))) (from : length (joined left) ≡ (statement_span x).from)
    (to : length (joined (left ++ own)) ≡ (statement_span x).to) (front head rest back : List Lexeme) (left-is : left ≡ front ++ head) (front-ends : EndsItsLine front)
    (head-none : HasNoLineEnd head) (right-is : right ≡ rest ++ back) (rest-is : IsRestOfLine rest back) where
  abbrev before : List Word
  before = (fits limits bytes f s path b is n x at).before

  abbrev earlier : List Word
  earlier = (found limits bytes f s path b is n x at).earlier

  abbrev later : List Word
  later = (found limits bytes f s path b is n x at).later ++ (fits limits bytes f s path b is n x at).behind

  abbrev items : List Lexeme
  items = s.reads.spells.items

  abbrev each : AreItems items []
  each = s.reads.spells.are_items.each

  abbrev stand : StandsAmongItems items (statement_span x) (before ++ earlier) (statement_words x) (new_line ∷ later)
  stand = stands limits bytes f s path b is n x at

  lines : Lines (before ++ earlier)
  lines = lines-append before earlier (fits limits bytes f s path b is n x at).lines (found limits bytes f s path b is n x at).lines

  abbrev same : (left ≡ stand.left) × (right ≡ stand.right)
  same = cut-items limits bytes f s path b is n x at left own right are from to

  -- before the statement
  left-begins : after start (front ++ head) ≡ start
  left-begins =
      ap (after start) (sym left-is ∙ same.0) ∙ left-state items each (statement_span x) (before ++ earlier) later (statement_words x) stand lines (statement-flat Span x)

  head-stays : Stays (after start front) head
  head-stays = line-head head (after start front) head-none (ap (λ (s : State). s.fresh) (sym (after-append start front head) ∙ left-begins))

  front-state : after start front ≡ start
  front-state = sym head-stays.same ∙ sym (after-append start front head) ∙ left-begins

  front-words : emitted start front ≡ before ++ earlier
  front-words =
      sym (append-nil (emitted start front)) ∙ ap (λ w. emitted start front ++ w) (sym head-stays.silent) ∙ sym (emitted-append start front head)
      ∙ ap (emitted start) (sym left-is ∙ same.0) ∙ stand.is_left

  head-start : Stays start head
  head-start = subst (λ s. Stays s head) front-state head-stays

  -- after it
  own-is : own ≡ stand.own
  own-is = cut-own limits bytes f s path b is n x at left own right are from to

  own-ends : after start own ≡ in_line
  own-ends = ap (after start) own-is ∙ own-state items each (statement_span x) (before ++ earlier) later (statement_words x) stand lines (statement-flat Span x)

  own-told : emitted start own ≡ statement_words x
  own-told = ap (emitted start) own-is ∙ own-words items each (statement_span x) (before ++ earlier) later (statement_words x) stand lines (statement-flat Span x)

  rest-told : told in_line rest ≡ new_line ∷ []
  rest-told =
      line-told rest back later rest-is
      (ap (told in_line) (sym right-is ∙ same.1) ∙ behind-told items each (statement_span x) (before ++ earlier) later (statement_words x) stand lines (statement-flat Span x))

  abbrev was : List Lexeme
  was = head ++ (own ++ rest)

  was-words : significant was ≡ statement_words x ++ new_line ∷ []
  was-words =
      told-append start head (own ++ rest) ∙ ap₂ (λ w (s : State). w ++ told s (own ++ rest)) head-start.silent head-start.same
      ∙ told-append start own rest ∙ ap₂ (λ w (s : State). w ++ told s rest) own-told own-ends ∙ ap (λ w. statement_words x ++ w) rest-told

  left-words : significant front ≡ before ++ earlier
  left-words = ap₂ (λ w (s : State). w ++ closing s.fresh) front-words front-state ∙ append-nil (before ++ earlier)

  both-words : significant (front ++ was) ≡ (before ++ earlier) ++ (statement_words x ++ new_line ∷ [])
  both-words = told-append start front was ∙ ap₂ (λ w (s : State). w ++ told s was) front-words front-state ∙ ap (λ w. (before ++ earlier) ++ w) was-words

  -- the same in the tree without spans
  block-is : q.inside ≡ erase_block b.inside
  block-is =
      some-injective _ _ (ap (option_map (λ (b : BlockAt Nowhere). b.inside)) (sym plain-is) ∙ blocks-erase f path ∙ ap (option_map (λ (b : BlockAt Span). erase_block b.inside)) is)

  is-before : words_before (erase f) path ≡ Some before
  is-before = before-erased f path ∙ (fits limits bytes f s path b is n x at).is_before

  earlier-is : earlier ≡ statements_words_of (take n (statements_in q.inside))
  earlier-is =
      (found limits bytes f s path b is n x at).is_earlier ∙ sym (block-front n b.inside) ∙ ap (λ (c : Block Nowhere). statements_words_of (take n (statements_in c))) (sym block-is)

  one-is : statements_words_of (take 1 (drop n (statements_in q.inside))) ≡ statement_words x ++ new_line ∷ []
  one-is = ap (λ (c : Block Nowhere). statements_words_of (take 1 (drop n (statements_in c)))) block-is ∙ block-one n b.inside x at

  ahead-is : significant front ≡ before ++ statements_words_of (take n (statements_in q.inside))
  ahead-is = left-words ∙ ap (λ w. before ++ w) earlier-is

  both-are : significant (front ++ was) ≡ before ++ statements_words_of (take (suc n) (statements_in q.inside))
  both-are =
      both-words ∙ append_assoc before earlier (statement_words x ++ new_line ∷ [])
      ∙ ap (λ w. before ++ w) (ap₂ (λ u v. u ++ v) earlier-is (sym one-is) ∙ sym (one-more n (statements_in q.inside)))

  pub statement-lines : AreLinesOf (erase f) path q.inside n front was back
  statement-lines = record {
    lines = (front-ends, subst (λ l. EndsItsLine l ⊎ (back ≡ [])) (append_assoc head own rest) (ends-line (head ++ own) rest back rest-is));
    itself = record { before = before; is_before = is-before; is_left = ahead-is; is_was = was-words ∙ sym one-is };
    before = record { before = before; is_before = is-before; is_left = ahead-is; is_was = refl };
    behind = record { before = before; is_before = is-before; is_left = both-are; is_was = refl };
  }

-- ---- each statement

parts-group : {A : Type 0} (front head own rest back : List A) → (front ++ head) ++ (own ++ (rest ++ back)) ≡ front ++ ((head ++ (own ++ rest)) ++ back)
parts-group front head own rest back = simp append_assoc

pub lines-there : LinesThere
lines-there limits bytes f s path b is q plain-is n x at =
    let st = stands limits bytes f s path b is n x at in
    let l = last-line st.left in
    let r = first-line st.right in
    let are = subst (IsItemList bytes) st.parts s.reads.spells.are_items in
    record {
      front = l.front;
      head = l.head;
      own = st.own;
      rest = r.rest;
      back = r.back;
      parts = st.parts ∙ ap₂ (λ u v. u ++ (st.own ++ v)) l.parts r.parts ∙ parts-group l.front l.head st.own r.rest r.back;
      from = st.from ∙ ap (λ l. length (joined l)) l.parts;
      to = st.to ∙ ap (λ l. length (joined l)) (ap (λ u. u ++ st.own) l.parts ∙ append_assoc l.front l.head st.own);
      head_none = l.none;
      is_rest = r.is_rest;
      lines =
          statement-lines limits bytes f s path b is q plain-is n x at st.left st.own st.right are (sym st.from) (sym st.to) l.front l.head r.rest r.back l.parts l.ends l.none r.parts r.is_rest;
    }

-- ---- others come before them or after them, or they go

module _ (bytes : List ℕ) (t : Plain) (s : Spells bytes t) (path : List ℕ) (b : BlockAt Nowhere) (is : block_at t path ≡ Some b) (n : ℕ) (left was right : List Lexeme)
    (are : IsItemList bytes (left ++ (was ++ right))) (l : AreLinesOf t path b.inside n left was right) where
  behind-them : IsItemList bytes ((left ++ was) ++ right)
  behind-them = subst (IsItemList bytes) (sym (append_assoc left was right)) are

  no-lines-text : IsLinesText [] []
  no-lines-text = record { items = []; are_items = record { joins = refl; each = tt }; is_words = refl; ends = inl refl }

  pub come-and-go : LinesComeAndGo bytes t path b n left was right
  come-and-go = record {
    before = λ new text lines level.
        subst (λ w. Spells (joined left ++ (text ++ w)) (b.back (exchanged_in n 0 new b.inside))) (joined-append was right)
        (lines-exchanged bytes t s path b is n 0 left [] (was ++ right) are l.before [] (inr (refl, l.lines.0)) new text lines level);
    behind = λ break parts new text lines level.
        subst (λ w. Spells w (b.back (exchanged_in (suc n) 0 new b.inside)))
        (ap (λ w. w ++ (break ++ (text ++ joined right))) (joined-append left was) ∙ append_assoc (joined left) (joined was) (break ++ (text ++ joined right)))
        (lines-exchanged bytes t s path b is (suc n) 0 (left ++ was) [] right behind-them l.behind break parts new text lines level);
    go =
        subst (λ c. Spells (joined left ++ joined right) (b.back c)) (sym (removal-exchanges b.inside n))
        (lines-exchanged bytes t s path b is n 1 left was right are l.itself [] (inr (refl, l.lines.0)) [] [] no-lines-text tt);
  }
