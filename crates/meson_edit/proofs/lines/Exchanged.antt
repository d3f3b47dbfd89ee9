-- Whole lines exchanged for others: the new text spells, and reads as, the tree with other statements.
use Rattle.meson_edit.proofs.Words.{◌≡◌, ℕ, ◌+◌, ◌≤◌, List, [], ◌++◌, length, take, drop, Some, refl, sym, ap, ap₂, subst, ◌∙◌, append_assoc, append-nil, inr, IsUtf8}
use Rattle.meson_edit.proofs.Words.{IsUtf8-append, Lexeme, joined, IsItemList, AreItems, Word, State, start, after, emitted, closing, significant, one_list}
use Rattle.meson_edit.proofs.Words.{joined-append, AreItems-append, AreItems-split, block_words, file_words, LevelStatements, LevelFile, file_depth, Fits, Spells}
use Rattle.meson_edit.proofs.Words.{ReadsWithin, Nowhere, Plain, Statement, statements_of, file, Limits, some-injective, BlockAt, block_at, IsBreak, spoken, after-append}
use Rattle.std.proofs.Math.Seq.{take-length}
use Rattle.meson_edit.specs.ExchangedLines.{statements_in, file_statements, exchanged_in, statements_words_of, StandsFor, IsLinesText}
use Rattle.meson_edit.proofs.exchange.States.{after_words, state-is, Lines, lines-append, lines-state}
use Rattle.meson_edit.proofs.exchange.StatementLines.{statements-lines, file-lines}
use Rattle.meson_edit.proofs.exchange.AmongStatements.{BlockFits, block-fits}
use Rattle.meson_edit.proofs.exchange.LineWords.{told, told-append}
use Rattle.meson_edit.proofs.exchange.Ends.{end-changed, end-stands}
use Rattle.meson_edit.proofs.exchange.Begun.{end-depth, Begun, begun}
use Rattle.meson_edit.proofs.exchange.Appended.{break-utf8}
use Rattle.meson_edit.proofs.exchange.Standing.{cut-utf8}
use Rattle.meson_edit.proofs.exchange.ReadAgain.{no-mark}
use Rattle.meson_edit.proofs.lines.Lists.{words-of-block, words-in-three, words-exchanged, exchanged-level}
use Rattle.meson_edit.proofs.lines.Cuts.{second-part, quiet-depth, quiet-behind, quiet-before}

-- ---- trees

pub lines-level : (t : Plain) (path : List ℕ) (b : BlockAt Nowhere) → block_at t path ≡ Some b → LevelFile t → (from many : ℕ) (new : List (Statement Nowhere))
    → LevelStatements (statements_of new) → LevelFile (b.back (exchanged_in from many new b.inside))
lines-level t path b is level from many new l =
    let fits = block-fits Nowhere t path b is in
    fits.outside level (exchanged_in from many new b.inside) (exchanged-level from many new b.inside (fits.level level) l)

four-group : {A : Type 0} (a b c d e : List A) → a ++ ((b ++ (c ++ d)) ++ e) ≡ (a ++ b) ++ (c ++ (d ++ e))
four-group a b c d e = simp append_assoc

-- ---- items that stand for statements

module _ (t : Plain) (path : List ℕ) (b : BlockAt Nowhere) (is : block_at t path ≡ Some b) (from many : ℕ) (left was : List Lexeme)
    (st : StandsFor t path b.inside from many left was) where
  fits : BlockFits Nowhere t path b
  fits = block-fits Nowhere t path b is

  abbrev ahead : List Word
  ahead = fits.before ++ statements_words_of (take from (statements_in b.inside))

  abbrev own : List Word
  own = statements_words_of (take many (drop from (statements_in b.inside)))

  abbrev later : List Word
  later = statements_words_of (drop (from + many) (statements_in b.inside)) ++ fits.behind

  left-words : significant left ≡ ahead
  left-words = st.is_left ∙ ap (λ w. w ++ statements_words_of (take from (statements_in b.inside))) (some-injective _ _ (sym st.is_before ∙ fits.is_before))

  left-lines : Lines (significant left)
  left-lines =
      subst Lines (sym left-words)
      (lines-append fits.before (statements_words_of (take from (statements_in b.inside))) fits.lines (statements-lines Nowhere (statements_of (take from (statements_in b.inside)))))

  left-depth : (after start left).depth ≡ 0
  left-depth = end-depth left left-lines

  was-depth : (after start was).depth ≡ 0
  was-depth = end-depth was (subst Lines (sym st.is_was) (statements-lines Nowhere (statements_of (take many (drop from (statements_in b.inside))))))

  tree-words : file_words t ≡ ahead ++ (own ++ later)
  tree-words =
      ap file_words (sym fits.itself) ∙ fits.put b.inside
      ∙ ap (λ w. fits.before ++ (w ++ fits.behind)) (words-of-block b.inside ∙ words-in-three from many (statements_in b.inside))
      ∙ four-group fits.before (statements_words_of (take from (statements_in b.inside))) own (statements_words_of (drop (from + many) (statements_in b.inside))) fits.behind

  new-words : (new : List (Statement Nowhere)) → file_words (b.back (exchanged_in from many new b.inside)) ≡ ahead ++ (statements_words_of new ++ later)
  new-words new =
      fits.put (exchanged_in from many new b.inside) ∙ ap (λ w. fits.before ++ (w ++ fits.behind)) (words-exchanged from many new b.inside)
      ∙ four-group fits.before (statements_words_of (take from (statements_in b.inside))) (statements_words_of new)
      (statements_words_of (drop (from + many) (statements_in b.inside))) fits.behind

  -- what is behind them gives, at the start of a line, the words of what is behind the statements
  right-words : (right : List Lexeme) → significant (left ++ (was ++ right)) ≡ file_words t → told start right ≡ later
  right-words right whole =
      second-part was right later was-depth
      (second-part left (was ++ right) (own ++ later) left-depth (whole ∙ tree-words ∙ ap (λ w. w ++ (own ++ later)) (sym left-words)) ∙ ap (λ w. w ++ later) (sym st.is_was))

-- ---- items without words

pub quiet-taken : (t : Plain) (path : List ℕ) (b : BlockAt Nowhere) → block_at t path ≡ Some b → (from many : ℕ) (left quiet was : List Lexeme) → spoken quiet ≡ []
    → StandsFor t path b.inside from many (left ++ quiet) was → StandsFor t path b.inside from many left (quiet ++ was)
quiet-taken t path b is from many left quiet was none st =
    let deep = sym (quiet-depth quiet (after start left) none) ∙ ap (λ (s : State). s.depth) (sym (after-append start left quiet)) ∙ left-depth t path b is from many (left ++ quiet) was st in
    record {
      before = st.before;
      is_before = st.is_before;
      is_left = sym (quiet-behind left quiet deep none) ∙ st.is_left;
      is_was = quiet-before quiet was none ∙ st.is_was;
    }

pub quiet-added : (t : Plain) (path : List ℕ) (b : BlockAt Nowhere) → block_at t path ≡ Some b → (from many : ℕ) (left was quiet : List Lexeme) → spoken quiet ≡ []
    → StandsFor t path b.inside from many left was → StandsFor t path b.inside from many left (was ++ quiet)
quiet-added t path b is from many left was quiet none st = record {
  before = st.before;
  is_before = st.is_before;
  is_left = st.is_left;
  is_was = quiet-behind was quiet (was-depth t path b is from many left was st) none ∙ st.is_was;
}

-- ---- a file's text

file-words-of : (t : Plain) → file_words t ≡ statements_words_of (file_statements t)
file-words-of (file s b) = words-of-block b

pub file-is-lines : (bytes : List ℕ) (t : Plain) → Spells bytes t → (items : List Lexeme) → IsItemList bytes items → (end : List ℕ) → IsBreak items end
    → IsLinesText (bytes ++ end) (file_statements t)
file-is-lines bytes t s items are end parts =
    let same : s.items ≡ items = one_list bytes s.items items s.are_items are in
    let g : Begun (bytes ++ end) (file_words t) = begun bytes items are (file_words t) (ap significant (sym same) ∙ s.words) (file-lines Nowhere t) end parts in
    record { items = g.head; are_items = record { joins = g.joins; each = g.stand [] }; is_words = g.told ∙ file-words-of t; ends = g.ends }

pub file-end-stands : (bytes : List ℕ) (t : Plain) → Spells bytes t → (b : BlockAt Nowhere) → block_at t [] ≡ Some b → (items : List Lexeme) → IsItemList bytes items
    → StandsFor t [] b.inside (length (statements_in b.inside)) 0 items []
file-end-stands bytes (file p c) s b is items are =
    let block_is : c ≡ b.inside = ap (λ (b : BlockAt Nowhere). b.inside) (some-injective _ _ is) in
    record {
      before = [];
      is_before = refl;
      is_left =
          ap significant (one_list bytes items s.items are s.are_items) ∙ s.words ∙ ap block_words block_is ∙ words-of-block b.inside
          ∙ ap statements_words_of (sym (take-length (statements_in b.inside)));
      is_was = refl;
    }

-- ---- the exchange

text-group : {A : Type 0} (left break text right : List A) → (left ++ break) ++ ((text ++ []) ++ right) ≡ left ++ (break ++ (text ++ right))
text-group left break text right = simp (append_assoc, append-nil)

-- nothing behind the items on the left
alone : (left more : List Lexeme) → AreItems (left ++ more) [] → IsItemList (joined left) left
alone left more each =
    let split = AreItems-split left more [] each in
    record { joins = refl; each = end-changed left (joined more ++ []) [] split.0 (λ front y is i. end-stands y (joined more ++ []) i) }

-- lines have no word at their end
lines-told : (text : List ℕ) (new : List (Statement Nowhere)) (l : IsLinesText text new) → significant l.items ≡ statements_words_of new
lines-told text new l =
    let begins : after start l.items ≡ start =
    state-is start l.items ∙ ap (after_words start) l.is_words ∙ lines-state (statements_words_of new) (statements-lines Nowhere (statements_of new)) in
    ap (λ (s : State). emitted start l.items ++ closing s.fresh) begins ∙ append-nil (emitted start l.items) ∙ l.is_words

module _ (bytes : List ℕ) (t : Plain) (s : Spells bytes t) (path : List ℕ) (b : BlockAt Nowhere) (is : block_at t path ≡ Some b) (from many : ℕ) (left was right : List Lexeme)
    (are : IsItemList bytes (left ++ (was ++ right))) (st : StandsFor t path b.inside from many left was) (break : List ℕ) (parts : IsBreak left break)
    (new : List (Statement Nowhere)) (text : List ℕ) (lines : IsLinesText text new) where
  front : Begun (joined left ++ break) (significant left)
  front = begun (joined left) left (alone left (was ++ right) are.each) (significant left) refl (left-lines t path b is from many left was st) break parts

  middle : Begun (text ++ []) (statements_words_of new)
  middle = begun text lines.items lines.are_items (statements_words_of new) (lines-told text new lines) (statements-lines Nowhere (statements_of new)) [] (inr (refl, lines.ends))

  abbrev now : List Lexeme
  now = front.head ++ (middle.head ++ right)

  now-items : AreItems now []
  now-items =
      let behind = (AreItems-split was right [] (AreItems-split left (was ++ right) [] are.each).1).1 in
      AreItems-append front.head (middle.head ++ right) [] (front.stand (joined (middle.head ++ right) ++ []))
      (AreItems-append middle.head right [] (middle.stand (joined right ++ [])) behind)

  now-joined : joined now ≡ joined left ++ (break ++ (text ++ joined right))
  now-joined =
      joined-append front.head (middle.head ++ right)
      ∙ ap₂ (λ u v. u ++ v) front.joins (joined-append middle.head right ∙ ap (λ u. u ++ joined right) middle.joins) ∙ text-group (joined left) break text (joined right)

  now-words : significant now ≡ file_words (b.back (exchanged_in from many new b.inside))
  now-words =
      let whole : significant (left ++ (was ++ right)) ≡ file_words t = ap significant (one_list bytes (left ++ (was ++ right)) s.items are s.are_items) ∙ s.words in
      told-append start front.head (middle.head ++ right)
      ∙ ap₂ (λ u (q : State). u ++ told q (middle.head ++ right)) (front.told ∙ left-words t path b is from many left was st) front.state
      ∙ ap (λ w. ahead t path b is from many left was st ++ w)
      (told-append start middle.head right ∙ ap₂ (λ u (q : State). u ++ told q right) middle.told middle.state
      ∙ ap (λ w. statements_words_of new ++ w) (right-words t path b is from many left was st right whole))
      ∙ sym (new-words t path b is from many left was st new)

  pub lines-spelled : LevelFile (b.back (exchanged_in from many new b.inside)) → Spells (joined left ++ (break ++ (text ++ joined right))) (b.back (exchanged_in from many new b.inside))
  lines-spelled level = record { items = now; are_items = record { joins = now-joined; each = now-items }; words = now-words; level = level }

  pub lines-exchanged : LevelStatements (statements_of new) → Spells (joined left ++ (break ++ (text ++ joined right))) (b.back (exchanged_in from many new b.inside))
  lines-exchanged level = lines-spelled (lines-level t path b is s.level from many new level)

pub lines-read : (limits : Limits) (bytes : List ℕ) (t : Plain) → ReadsWithin limits bytes t → (path : List ℕ) (b : BlockAt Nowhere) → block_at t path ≡ Some b
    → (from many : ℕ) (left was right : List Lexeme) → IsItemList bytes (left ++ (was ++ right)) → StandsFor t path b.inside from many left was
    → (break : List ℕ) → IsBreak left break
    → (new : List (Statement Nowhere)) (text : List ℕ) → IsLinesText text new → LevelStatements (statements_of new)
    → IsUtf8 text → Fits limits.len (length (joined left ++ (break ++ (text ++ joined right)))) → file_depth (b.back (exchanged_in from many new b.inside)) ≤ limits.depth
    → ReadsWithin limits (joined left ++ (break ++ (text ++ joined right))) (b.back (exchanged_in from many new b.inside))
lines-read limits bytes t r path b is from many left was right are st break parts new text lines level utf8 short depth =
    let spells = lines-exchanged bytes t r.spells path b is from many left was right are st break parts new text lines level in
    let front = cut-utf8 bytes left (was ++ right) are r.source.utf8 in
    let cut : IsItemList bytes ((left ++ was) ++ right) =
    record { joins = ap joined (append_assoc left was right) ∙ are.joins; each = subst (λ l. AreItems l []) (sym (append_assoc left was right)) are.each } in
    let back = cut-utf8 bytes (left ++ was) right cut r.source.utf8 in
    record {
      source = record {
        fits = short;
        utf8 = IsUtf8-append (joined left) (break ++ (text ++ joined right)) front.0
            (IsUtf8-append break (text ++ joined right) (break-utf8 left break parts) (IsUtf8-append text (joined right) utf8 back.1));
        no_mark = no-mark (joined left ++ (break ++ (text ++ joined right))) spells.items spells.are_items;
      };
      spells = spells;
      depth = depth;
    }
