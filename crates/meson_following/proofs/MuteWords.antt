-- Words in which nothing matters to a variable: those of a text in which nothing does.
use Rattle.std.proofs.Common.{◌≡◌, ℕ, ◌+◌, List, [], ◌∷◌, ◌++◌, length, append_assoc, refl, sym, ap, subst, ◌∙◌, arith}
use Rattle.std.specs.Prelude.{Bool, true, false, ⊤}
use Rattle.std.proofs.lemmas.List.{append-nil, length-append}
use Rattle.meson_lex.specs.Items.{Lexeme, joined}
use Rattle.meson_lex.specs.Significant.{Closes, Ends, Gap, Opens, Other, Role, State, Word, emit, emit_by, emitted, after, ends_line, kept, new_line, only_if, role, start, step}
use Rattle.meson_lex.specs.declared.kinds.Kind.{Kind}
use Rattle.meson_lex.specs.declared.kinds.Kind.TheVariants as k
use Rattle.meson_lex.specs.declared.kinds.Span.{Span}
use Rattle.meson_lex.proofs.Seams.{joined-append}
use Rattle.meson_syntax.specs.View.{text_at}
use Rattle.meson_syntax.proofs.Slices.{slice_range-part}
use Rattle.meson_edit.specs.Standing.{StandsAmongItems}
use Rattle.meson_calls.specs.Spelling.{HasNone, HasNoneOf}
use Rattle.meson_following.specs.Passing.{folder_word, mattering_words, setter_word}

-- ---- parts of texts

-- the word is in the text
pub record HasWord (word text : List ℕ) : Type 0 where
  pub front : List ℕ
  pub rest : List ℕ
  pub is : text ≡ front ++ (word ++ rest)

abbrev pub Lacks : List ℕ → List ℕ → Type 0
Lacks word text = HasWord word text → ⊥

lacks : (word text : List ℕ) → HasNone word text → Lacks word text
lacks word text none h =
    none (record { from = length h.front; to = length h.front + length word })
    (slice_range-part text h.front word h.rest (length h.front) (length h.front + length word) h.is refl refl)

part_lacks : (word text before behind : List ℕ) → Lacks word (before ++ (text ++ behind)) → Lacks word text
part_lacks word text before behind none h =
    none (record {
      front = before ++ h.front;
      rest = h.rest ++ behind;
      is = ap (λ t. before ++ (t ++ behind)) h.is ∙ apart before h.front word h.rest behind;
    })
  where
    apart : (a b c d e : List ℕ) → a ++ ((b ++ (c ++ d)) ++ e) ≡ (a ++ b) ++ (c ++ (d ++ e))
    apart a b c d e = simp append_assoc

nothing_lacks : (word text : List ℕ) → Lacks word text → Lacks word []
nothing_lacks word text none h = none (subst (λ w. HasWord w text) (sym (empty h.front word h.rest h.is)) (record { front = []; rest = text; is = refl }))
  where
    empty : (front w rest : List ℕ) → [] ≡ front ++ (w ++ rest) → w ≡ []
    empty [] [] rest is = refl
    empty [] (x ∷ w) rest is = absurd cc
    empty (x ∷ front) w rest is = absurd cc

module _ (x : List ℕ) where
  -- nothing in the text matters to the variable
  pub record IsMute (text : List ℕ) : Type 0 where
    pub variable : Lacks x text
    pub setter : Lacks setter_word text
    pub folder : Lacks folder_word text

  abbrev pub AreMute : List Word → Type 0
  AreMute [] = ⊤
  AreMute (w ∷ words) = IsMute w.1 × AreMute words

  pub mute_text : (text : List ℕ) → HasNoneOf (mattering_words x) text → IsMute text
  mute_text text none =
      record {
        variable = lacks x text (none 0 [] (omega arith));
        setter = lacks setter_word text (none 1 [] (omega arith));
        folder = lacks folder_word text (none 2 [] (omega arith));
      }

  mute_part : (text before behind : List ℕ) → IsMute (before ++ (text ++ behind)) → IsMute text
  mute_part text before behind mute =
      record {
        variable = part_lacks x text before behind mute.variable;
        setter = part_lacks setter_word text before behind mute.setter;
        folder = part_lacks folder_word text before behind mute.folder;
      }

  mute_nothing : (text : List ℕ) → IsMute text → IsMute []
  mute_nothing text mute =
      record {
        variable = nothing_lacks x text mute.variable;
        setter = nothing_lacks setter_word text mute.setter;
        folder = nothing_lacks folder_word text mute.folder;
      }

  -- ---- words among others

  mute_append : (xs ys : List Word) → AreMute xs → AreMute ys → AreMute (xs ++ ys)
  mute_append [] ys v w = w
  mute_append (x ∷ xs) ys v w = (v.0, mute_append xs ys v.1 w)

  pub mute_left : (xs ys : List Word) → AreMute (xs ++ ys) → AreMute xs
  mute_left [] ys mute = tt
  mute_left (x ∷ xs) ys mute = (mute.0, mute_left xs ys mute.1)

  pub mute_right : (xs ys : List Word) → AreMute (xs ++ ys) → AreMute ys
  mute_right [] ys mute = mute
  mute_right (x ∷ xs) ys mute = mute_right xs ys mute.1

  -- ---- the words of items

  kept_mute : (κ : Kind) (text : List ℕ) → IsMute text → IsMute (kept κ text)
  kept_mute k.Blank text mute = mute_nothing text mute
  kept_mute k.LineEnd text mute = mute_nothing text mute
  kept_mute k.Comment text mute = mute_nothing text mute
  kept_mute k.Continuation text mute = mute_nothing text mute
  kept_mute k.Identifier text mute = mute
  kept_mute k.WordTrue text mute = mute_nothing text mute
  kept_mute k.WordFalse text mute = mute_nothing text mute
  kept_mute k.WordIf text mute = mute_nothing text mute
  kept_mute k.WordElif text mute = mute_nothing text mute
  kept_mute k.WordElse text mute = mute_nothing text mute
  kept_mute k.WordEndif text mute = mute_nothing text mute
  kept_mute k.WordAnd text mute = mute_nothing text mute
  kept_mute k.WordOr text mute = mute_nothing text mute
  kept_mute k.WordNot text mute = mute_nothing text mute
  kept_mute k.WordIn text mute = mute_nothing text mute
  kept_mute k.WordForeach text mute = mute_nothing text mute
  kept_mute k.WordEndforeach text mute = mute_nothing text mute
  kept_mute k.WordBreak text mute = mute_nothing text mute
  kept_mute k.WordContinue text mute = mute_nothing text mute
  kept_mute k.Integer text mute = mute
  kept_mute k.PlainString text mute = mute
  kept_mute k.MultilineString text mute = mute
  kept_mute k.FormatString text mute = mute
  kept_mute k.FormatMultilineString text mute = mute
  kept_mute k.OpenRound text mute = mute_nothing text mute
  kept_mute k.CloseRound text mute = mute_nothing text mute
  kept_mute k.OpenSquare text mute = mute_nothing text mute
  kept_mute k.CloseSquare text mute = mute_nothing text mute
  kept_mute k.OpenCurly text mute = mute_nothing text mute
  kept_mute k.CloseCurly text mute = mute_nothing text mute
  kept_mute k.Comma text mute = mute_nothing text mute
  kept_mute k.Dot text mute = mute_nothing text mute
  kept_mute k.Colon text mute = mute_nothing text mute
  kept_mute k.Question text mute = mute_nothing text mute
  kept_mute k.Plus text mute = mute_nothing text mute
  kept_mute k.Minus text mute = mute_nothing text mute
  kept_mute k.Star text mute = mute_nothing text mute
  kept_mute k.Slash text mute = mute_nothing text mute
  kept_mute k.Percent text mute = mute_nothing text mute
  kept_mute k.Assign text mute = mute_nothing text mute
  kept_mute k.PlusAssign text mute = mute_nothing text mute
  kept_mute k.Equal text mute = mute_nothing text mute
  kept_mute k.NotEqual text mute = mute_nothing text mute
  kept_mute k.Less text mute = mute_nothing text mute
  kept_mute k.LessEqual text mute = mute_nothing text mute
  kept_mute k.Greater text mute = mute_nothing text mute
  kept_mute k.GreaterEqual text mute = mute_nothing text mute

  emit_mute : (r : Role) (s : State) (w : Word) → IsMute w.1 → AreMute (emit_by r s w)
  emit_mute Gap s w mute = tt
  emit_mute Ends s w mute = line (ends_line s.depth s.fresh)
    where
      line : (b : Bool) → AreMute (only_if b new_line)
      line true = (mute_nothing w.1 mute, tt)
      line false = tt
  emit_mute Opens s w mute = (mute, tt)
  emit_mute Closes s w mute = (mute, tt)
  emit_mute Other s w mute = (mute, tt)

  emitted_mute : (s : State) (own : List Lexeme) (before behind : List ℕ) → IsMute (before ++ (joined own ++ behind)) → AreMute (emitted s own)
  emitted_mute s [] before behind mute = tt
  emitted_mute s (y ∷ ys) before behind mute =
      let whole : IsMute (before ++ (y.text ++ (joined ys ++ behind))) = subst (λ t. IsMute (before ++ t)) (append_assoc y.text (joined ys) behind) mute in
      mute_append (emit s y) (emitted (step s y) ys)
      (emit_mute (role y.kind) s (y.kind, kept y.kind y.text) (kept_mute y.kind y.text (mute_part y.text before (joined ys ++ behind) whole)))
      (emitted_mute (step s y) ys (before ++ y.text) behind (subst IsMute (sym (append_assoc before y.text (joined ys ++ behind))) whole))

  -- what is at a span in a text has the words of the items there
  pub standing_mute : (bytes : List ℕ) (items : List Lexeme) (s : Span) (before words behind : List Word) → joined items ≡ bytes
      → StandsAmongItems items s before words behind → IsMute (text_at bytes s) → AreMute words
  standing_mute bytes items s before words behind joins st mute =
      let apart : bytes ≡ joined st.left ++ (joined st.own ++ joined st.right) =
      sym joins ∙ ap joined st.parts ∙ joined-append st.left (st.own ++ st.right) ∙ ap (λ t. joined st.left ++ t) (joined-append st.own st.right) in
      let end : s.to ≡ s.from + length (joined st.own) =
      st.to ∙ ap length (joined-append st.left st.own) ∙ length-append (joined st.left) (joined st.own) ∙ ap (λ n. n + length (joined st.own)) (sym st.from) in
      let text : text_at bytes s ≡ joined st.own = slice_range-part bytes (joined st.left) (joined st.own) (joined st.right) s.from s.to apart (sym st.from) end in
      subst AreMute st.is_own (emitted_mute (after start st.left) st.own [] [] (subst IsMute (text ∙ sym (append-nil (joined st.own))) mute))
