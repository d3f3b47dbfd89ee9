-- A text with a statement behind it spells, and reads as, the file with that statement at its end.
use Rattle.meson_edit.proofs.Words.{◌≡◌, ℕ, ◌≤◌, List, [], ◌∷◌, ◌++◌, length, refl, sym, ap, ap₂, subst, ◌∙◌, append_assoc, inl, inr, lit<, IsUtf8, append-nil}
use Rattle.meson_edit.proofs.Words.{IsUtf8-nil, IsUtf8-append, IsUtf8-from_ascii, Lexeme, joined, IsItemList, AreItems, IsLineEnd, Word, new_line, start}
use Rattle.meson_edit.proofs.Words.{significant, one_list, joined-append, AreItems-append, statement_words, statements_words, file_words, LevelStatement}
use Rattle.meson_edit.proofs.Words.{LevelStatements, LevelFile, file_depth, Fits, Spells, ReadsWithin, Nowhere, Plain, Statement, Statements, no_statements}
use Rattle.meson_edit.proofs.Words.{statement, block, File, file, Limits, and_last, file_and_last, IsStatementText, IsBreak}
use Rattle.std.proofs.lemmas.Str.Ascii.{IsAscii-nil, IsAscii-push}
use Rattle.meson_edit.proofs.exchange.StatementLines.{statement-flat, file-lines}
use Rattle.meson_edit.proofs.exchange.LineWords.{told, told-append, tight-state}
use Rattle.meson_edit.proofs.exchange.Begun.{line_of, line-item, before-line, Begun, begun}
use Rattle.meson_edit.proofs.exchange.ReadAgain.{no-mark}

-- ---- trees

last-words : {S : Type 0} (list : Statements S) (x : Statement S) → statements_words (and_last list x) ≡ statements_words list ++ (statement_words x ++ new_line ∷ [])
last-words no_statements x = refl
last-words (statement s more) x = ap (λ w. statement_words s ++ (new_line ∷ w)) (last-words more x) ∙ shift (statement_words s) (statements_words more) (statement_words x ++ new_line ∷ [])
  where
    shift : (a b c : List Word) → a ++ (new_line ∷ (b ++ c)) ≡ (a ++ (new_line ∷ b)) ++ c
    shift a b c = simp append_assoc

pub file-last-words : {S : Type 0} (f : File S) (x : Statement S) → file_words (file_and_last f x) ≡ file_words f ++ (statement_words x ++ new_line ∷ [])
file-last-words (file s (block b list)) x = last-words list x

last-level : {S : Type 0} (list : Statements S) (x : Statement S) → LevelStatements list → LevelStatement x → LevelStatements (and_last list x)
last-level no_statements x l m = (m, tt)
last-level (statement s more) x l m = (l.0, last-level more x l.1 m)

pub file-last-level : (t : Plain) → LevelFile t → (x : Statement Nowhere) → LevelStatement x → LevelFile (file_and_last t x)
file-last-level (file s (block b list)) l x m = last-level list x l m

-- ---- texts

line-utf8 : (end : List ℕ) → IsLineEnd end → IsUtf8 end
line-utf8 end (inl e) = subst IsUtf8 (sym e) (IsUtf8-from_ascii (10 ∷ []) (IsAscii-push [] 10 IsAscii-nil (lit< tt)))
line-utf8 end (inr e) = subst IsUtf8 (sym e) (IsUtf8-from_ascii (13 ∷ 10 ∷ []) (IsAscii-push (13 ∷ []) 10 (IsAscii-push [] 13 IsAscii-nil (lit< tt)) (lit< tt)))

pub break-utf8 : (xs : List Lexeme) (break : List ℕ) → IsBreak xs break → IsUtf8 break
break-utf8 xs break (inl l) = line-utf8 break l
break-utf8 xs break (inr e) = subst IsUtf8 (sym e.0) IsUtf8-nil

module _ (bytes : List ℕ) (t : Plain) (s : Spells bytes t) (items : List Lexeme) (are : IsItemList bytes items) (x : Statement Nowhere) (text : List ℕ)
    (st : IsStatementText text (statement_words x)) (level : LevelStatement x) (break end : List ℕ) (parts : IsBreak items break) (ends : IsLineEnd end) where
  before : Begun (bytes ++ break) (file_words t)
  before =
      let same : s.items ≡ items = one_list bytes s.items items s.are_items are in
      begun bytes items are (file_words t) (ap significant (sym same) ∙ s.words) (file-lines Nowhere t) break parts

  abbrev line : Lexeme
  line = line_of end

  abbrev now : List Lexeme
  now = before.head ++ (st.items ++ line ∷ [])

  now-items : AreItems now []
  now-items =
      AreItems-append before.head (st.items ++ line ∷ []) [] (before.stand (joined (st.items ++ line ∷ []) ++ []))
      (AreItems-append st.items (line ∷ []) [] (before-line st.items end [] ends st.are_items.each) (line-item end [] ends, tt))

  now-joined : joined now ≡ bytes ++ (break ++ (text ++ end))
  now-joined =
      joined-append before.head (st.items ++ line ∷ [])
      ∙ ap₂ (λ u v. u ++ v) before.joins (joined-append st.items (line ∷ []) ∙ ap₂ (λ u v. u ++ v) st.are_items.joins (append-nil end))
      ∙ append_assoc bytes break (text ++ end)

  now-words : significant now ≡ file_words (file_and_last t x)
  now-words =
      let behind = tight-state st.items (statement_words x) st.tight st.is_words (statement-flat Nowhere x) in
      told-append start before.head (st.items ++ line ∷ [])
      ∙ ap₂ (λ u v. u ++ v) before.told
      (ap (λ q. told q (st.items ++ line ∷ [])) before.state ∙ told-append start st.items (line ∷ []) ∙ ap₂ (λ u v. u ++ v) st.is_words (ap (λ q. told q (line ∷ [])) behind))
      ∙ sym (file-last-words t x)

  pub statement-come : Spells (bytes ++ (break ++ (text ++ end))) (file_and_last t x)
  statement-come = record {
    items = now;
    are_items = record { joins = now-joined; each = now-items };
    words = now-words;
    level = file-last-level t s.level x level;
  }

pub appended-reads : (limits : Limits) (bytes : List ℕ) (t : Plain) → ReadsWithin limits bytes t → (items : List Lexeme) → IsItemList bytes items
    → (x : Statement Nowhere) (text : List ℕ) → IsStatementText text (statement_words x) → LevelStatement x
    → (break end : List ℕ) → IsBreak items break → IsLineEnd end
    → IsUtf8 text → Fits limits.len (length (bytes ++ (break ++ (text ++ end)))) → file_depth (file_and_last t x) ≤ limits.depth
    → ReadsWithin limits (bytes ++ (break ++ (text ++ end))) (file_and_last t x)
appended-reads limits bytes t r items are x text st level break end parts ends utf8 fits depth =
    let spells = statement-come bytes t r.spells items are x text st level break end parts ends in
    record {
      source = record {
        fits = fits;
        utf8 = IsUtf8-append bytes (break ++ (text ++ end)) r.source.utf8 (IsUtf8-append break (text ++ end) (break-utf8 items break parts) (IsUtf8-append text end utf8 (line-utf8 end ends)));
        no_mark = no-mark (bytes ++ (break ++ (text ++ end))) spells.items spells.are_items;
      };
      spells = spells;
      depth = depth;
    }
