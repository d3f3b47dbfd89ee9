-- How a plain string is read: up to each backslash, then its escape, then on behind that.
use Rattle.std.proofs.Common.{◌≡◌, ℕ, suc, zero, ◌+◌, ◌<◌, ◌≤◌, ◌==◌, eqb, List, [], ◌∷◌, ◌++◌, length, take, drop, get_or, Option, Some, None, option_map, IsUtf8, encode_utf8, encode_utf8_all, sym, refl, ap, ◌∙◌, subst, arith, append_assoc, take-append-drop, lit<}
use Rattle.std.specs.Str.{chars, NonePass, NoCharPasses}
use Rattle.std.specs.Char.{len_utf8}
use Rattle.std.specs.Str.Pattern.{HasCharAt, FindsChar}
use Rattle.std.proofs.lemmas.Bool.{cond-false}
use Rattle.std.proofs.lemmas.List.{append-nil}
use Rattle.std.proofs.lemmas.Str.{chars-append, encodes-append, encodes-chars, encodes_same, IsUtf8-take, IsUtf8-drop, IsCharBoundary-before_ascii}
use Rattle.std.proofs.lemmas.Str.Pattern.{drop_at_char}
use Rattle.meson_lex.specs.declared.escapes.Escaped.{Escaped}
use Rattle.meson_lex.specs.Literals.{escape, escape_taken, before, unescaped_after, unescaped}
use Rattle.meson_lex.proofs.Characters.{Cuts}
use Rattle.meson_lex.proofs.EscapeTexts.{escape_chars}

-- what an escape takes is passed over
skip_taken : (n : ℕ) (cs : List ℕ) → unescaped_after n cs ≡ unescaped (drop n cs)
skip_taken zero cs = refl
skip_taken (suc n) [] = refl
skip_taken (suc n) (c ∷ cs) = skip_taken n cs

nil_before : (o : Option (List ℕ)) → o ≡ option_map (λ l. [] ++ l) o
nil_before None = refl
nil_before (Some l) = refl

cons_before : (c : ℕ) (cs : List ℕ) (o : Option (List ℕ)) → option_map (λ l. c ∷ l) (option_map (λ l. cs ++ l) o) ≡ option_map (λ l. (c ∷ cs) ++ l) o
cons_before c cs None = refl
cons_before c cs (Some l) = refl

-- what stands before a backslash stands for itself
passes_over : (cs l : List ℕ) → NonePass (λ d. d == 92) cs → unescaped (cs ++ l) ≡ option_map (λ k. cs ++ k) (unescaped l)
passes_over [] l none = nil_before (unescaped l)
passes_over (c ∷ cs) l none =
    cond-false (eqb c 92) _ _ none.0 ∙ ap (option_map (λ k. c ∷ k)) (passes_over cs l none.1) ∙ cons_before c cs (unescaped l)

-- the characters of a text without a backslash
plain_chars : (bs : List ℕ) → IsUtf8 bs → NoCharPasses (λ d. d == 92) bs → NonePass (λ d. d == 92) (chars bs)
plain_chars bs u (cs, spells, none) = subst (NonePass (λ d. d == 92)) (sym (encodes_same (chars bs) cs (encodes-chars bs u ∙ sym spells))) none

backslash_char : (bs : List ℕ) → chars (92 ∷ bs) ≡ 92 ∷ chars bs
unfolding chars
backslash_char [] = refl
backslash_char (b ∷ bs) = refl

-- the inner text is what was read and what is to be read of the rest
abbrev pub Reads : List ℕ → List ℕ → List ℕ → Type 0
Reads inner so_far rest = option_map encode_utf8_all (unescaped (chars inner)) ≡ option_map (λ cs. so_far ++ encode_utf8_all cs) (unescaped (chars rest))

pub reads_start : (inner : List ℕ) → Reads inner [] inner
reads_start inner = same (unescaped (chars inner))
  where
    same : (o : Option (List ℕ)) → option_map encode_utf8_all o ≡ option_map (λ cs. [] ++ encode_utf8_all cs) o
    same None = refl
    same (Some l) = refl

-- no backslash is left
pub reads_end : (inner so_far rest : List ℕ) → IsUtf8 rest → NoCharPasses (λ d. d == 92) rest → Reads inner so_far rest → Some (so_far ++ rest) ≡ option_map encode_utf8_all (unescaped (chars inner))
reads_end inner so_far rest u none reads =
    let all : unescaped (chars rest) ≡ Some (chars rest) =
    ap unescaped (sym (append-nil (chars rest))) ∙ passes_over (chars rest) [] (plain_chars rest u none) ∙ ap Some (append-nil (chars rest)) in
    sym (reads ∙ ap (option_map (λ cs. so_far ++ encode_utf8_all cs)) all ∙ ap (λ l. Some (so_far ++ l)) (encodes-chars rest u))

module _ (inner so_far rest front after : List ℕ) (front_text : IsUtf8 front) (after_text : IsUtf8 after) (none : NoCharPasses (λ d. d == 92) front) (joins : rest ≡ front ++ (92 ∷ after)) (reads : Reads inner so_far rest) where
  -- the rest, by the escape that stands in it
  rest_reads : (o : Option Escaped) → escape after ≡ o → unescaped (chars rest) ≡ option_map (λ l. chars front ++ l) (before o (unescaped_after (escape_taken o) (chars after)))
  rest_reads o is =
      ap (λ l. unescaped (chars l)) joins ∙ ap unescaped (chars-append front (92 ∷ after) front_text ∙ ap (λ l. chars front ++ l) (backslash_char after))
      ∙ passes_over (chars front) (92 ∷ chars after) (plain_chars front front_text none)
      ∙ ap (λ e. option_map (λ l. chars front ++ l) (before e (unescaped_after (escape_taken e) (chars after)))) (escape_chars after after_text ∙ is)

  -- it makes the literal opaque
  pub reads_opaque : escape after ≡ None → None ≡ option_map encode_utf8_all (unescaped (chars inner))
  reads_opaque is = sym (reads ∙ ap (option_map (λ cs. so_far ++ encode_utf8_all cs)) (rest_reads None is))

  regroup : (c : ℕ) (k : List ℕ) → so_far ++ encode_utf8_all (chars front ++ (c ∷ k)) ≡ ((so_far ++ front) ++ encode_utf8 c) ++ encode_utf8_all k
  regroup c k =
      ap (λ l. so_far ++ l) (encodes-append (chars front) (c ∷ k) ∙ ap (λ l. l ++ (encode_utf8 c ++ encode_utf8_all k)) (encodes-chars front front_text))
      ∙ sym (append_assoc so_far front (encode_utf8 c ++ encode_utf8_all k)) ∙ sym (append_assoc (so_far ++ front) (encode_utf8 c) (encode_utf8_all k))

  regroup_all : (c : ℕ) (o : Option (List ℕ)) → option_map (λ cs. so_far ++ encode_utf8_all cs) (option_map (λ l. chars front ++ l) (option_map (λ l. c ∷ l) o)) ≡ option_map (λ cs. ((so_far ++ front) ++ encode_utf8 c) ++ encode_utf8_all cs) o
  regroup_all c None = refl
  regroup_all c (Some k) = ap Some (regroup c k)

  -- its character follows what stands before it
  pub reads_on : (e : Escaped) → escape after ≡ Some e → Cuts after e.taken → Reads inner ((so_far ++ front) ++ encode_utf8 e.character) (drop e.taken after)
  reads_on e is cuts =
      reads ∙ ap (option_map (λ cs. so_far ++ encode_utf8_all cs)) (rest_reads (Some e) is)
      ∙ regroup_all e.character (unescaped_after e.taken (chars after))
      ∙ ap (option_map (λ cs. ((so_far ++ front) ++ encode_utf8 e.character) ++ encode_utf8_all cs)) (skip_taken e.taken (chars after) ∙ ap unescaped (sym cuts.same))

-- where a search for a backslash cuts a text
pub cut_joins : (rest front after : List ℕ) (i j : ℕ) → HasCharAt 92 rest i j → front ≡ take i rest → after ≡ drop j rest → rest ≡ front ++ (92 ∷ after)
cut_joins rest front after i j at front_is after_is =
    sym (take-append-drop i rest) ∙ ap (λ l. take i rest ++ l) (drop_at_char 92 rest i j at (lit< tt) ∙ ap (λ l. 92 ∷ l) (sym after_is)) ∙ ap (λ l. l ++ (92 ∷ after)) (sym front_is)

-- what `split_once` at a backslash answers
pub record SplitsAtBackslash (rest front after : List ℕ) : Type 0 where
  pub front_text : IsUtf8 front
  pub after_text : IsUtf8 after
  pub none : NoCharPasses (λ d. d == 92) front
  pub joins : rest ≡ front ++ (92 ∷ after)
  pub shorter : length after < length rest

pub split_texts : (rest front after : List ℕ) → IsUtf8 rest → ((i : ℕ) × (j : ℕ) × FindsChar 92 rest (Some (i, j)) × (front ≡ take i rest) × (after ≡ drop j rest) × (i ≤ j) × (length front ≡ i) × (length after + j ≡ length rest)) → SplitsAtBackslash rest front after
split_texts rest front after u (i, j, finds, front_is, after_is, ordered, front_len, after_len) =
    let at : HasCharAt 92 rest i j = finds.1 in
    let one = at.ends in
    let inside : i < length rest = omega (arith, one, after_len) in
    let byte : get_or rest i 0 ≡ 92 = at.byte (lit< tt) in
    record {
      front_text = subst IsUtf8 (sym front_is) (IsUtf8-take rest i u (IsCharBoundary-before_ascii rest i inside (omega (arith, byte))));
      after_text = subst IsUtf8 (sym after_is) (subst (λ n. IsUtf8 (drop n rest)) (sym one) (IsUtf8-drop rest (i + len_utf8 92) u at.after));
      none = subst (NoCharPasses (λ d. d == 92)) (sym front_is) finds.0;
      joins = cut_joins rest front after i j at front_is after_is;
      shorter = omega (arith, one, after_len);
    }
