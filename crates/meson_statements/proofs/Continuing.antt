-- A continuation with another line end is one, and begins with the same byte.
use Rattle.std.proofs.Common.{◌≡◌, ℕ, ◌<◌, ⊎_elim, lit<, Bool, true, false, not, List, [], ◌∷◌, ◌++◌, None, refl, sym, ap, ◌∙◌, subst, inl, inr, append_assoc, take}
use Rattle.std.proofs.lemmas.Bool.{and_from, and_parts, eqb-true, or_cases, or_from, false≢true}
use Rattle.std.proofs.lemmas.List.Folds.{list_all-append}
use Rattle.std.proofs.Math.Seq.{take-append_seam}
use Rattle.std.specs.List.{list_all}
use Rattle.std.specs.Prelude.{◌⊎◌}
use Rattle.meson_lex.specs.Bytes.{is_blank, is_line_byte, begins, first_bare_return}
use Rattle.meson_lex.specs.Kinds.{IsComment, IsContinuation, IsLineEnd}
use Rattle.meson_lex.specs.Neighbours.{Shape, blanks, note, name, word, quoted, format_quoted, extendable, closed, StandsBefore}
use Rattle.meson_lex.proofs.FoundContinuations.{bare_append, no_return_in}
use Rattle.meson_lex.proofs.FrontComplete.{apart}
use Rattle.meson_lex.proofs.Runs.{run_stops}
use Rattle.meson_statements.specs.Indented.{before_end}

-- ---- what is next to it

-- but for line ends the first byte alone counts
pub same-first : (σ : Shape) (text : List ℕ) (b : ℕ) (us vs : List ℕ) → is_line_byte b ≡ false → StandsBefore σ text (b ∷ us) → StandsBefore σ text (b ∷ vs)
same-first blanks text b us vs solid h = h
same-first note text b us vs solid (inl none) = absurd cc
same-first note text b us vs solid (inr h) = absurd (false≢true (sym solid ∙ h.0))
same-first name text b us vs solid h = h
same-first word text b us vs solid h = h
same-first quoted text b us vs solid h = h
same-first format_quoted text b us vs solid h = h
same-first extendable text b us vs solid h = h
same-first closed text b us vs solid h = tt

-- ---- its bytes

abbrev inside : ℕ → Bool
inside b = not (is_line_byte b)

blank-inside : (b : ℕ) → is_blank b ≡ true → inside b ≡ true
blank-inside b h = ap not (or_from _ _ (apart is_blank b 10 h refl) (apart is_blank b 13 h refl))

pub blank-low : (b : ℕ) → is_blank b ≡ true → b < 128
blank-low b h = ⊎_elim (λ s. subst (λ c. c < 128) (sym (eqb-true b 32 s)) (lit< tt)) (λ t. subst (λ c. c < 128) (sym (eqb-true b 9 t)) (lit< tt)) (or_cases _ _ h)

blanks-inside : (bs : List ℕ) → list_all is_blank bs ≡ true → list_all inside bs ≡ true
blanks-inside [] all = refl
blanks-inside (b ∷ bs) all =
    let parts = and_parts (is_blank b) (list_all is_blank bs) all in
    and_from _ _ (blank-inside b parts.0) (blanks-inside bs parts.1)

note-inside : (bs : List ℕ) → (bs ≡ []) ⊎ IsComment bs → list_all inside bs ≡ true
note-inside [] which = refl
note-inside (b ∷ bs) (inl none) = absurd cc
note-inside (b ∷ bs) (inr h) = and_from _ _ (ap inside h.0) h.1

end-outside : (end : List ℕ) → IsLineEnd end → begins inside end ≡ false
end-outside end (inl e) = ap (begins inside) e
end-outside end (inr e) = ap (begins inside) e

pub end-none : (end : List ℕ) → IsLineEnd end → first_bare_return end ≡ None
end-none end (inl e) = ap first_bare_return e
end-none end (inr e) = ap first_bare_return e

module _ (text : List ℕ) (c : IsContinuation text) where
  all-inside : list_all inside (92 ∷ (c.blanks ++ c.note)) ≡ true
  all-inside = and_from _ _ refl (list_all-append inside c.blanks c.note ∙ and_from _ _ (blanks-inside c.blanks c.all_blank) (note-inside c.note c.is_note))

  parts : text ≡ (92 ∷ (c.blanks ++ c.note)) ++ c.end
  parts = sym c.joins ∙ ap (λ l. 92 ∷ l) (sym (append_assoc c.blanks c.note c.end))

  pub before-is : before_end text ≡ 92 ∷ (c.blanks ++ c.note)
  before-is =
      ap before_end parts
      ∙ ap (λ n. take n ((92 ∷ (c.blanks ++ c.note)) ++ c.end)) (run_stops inside (92 ∷ (c.blanks ++ c.note)) c.end all-inside (end-outside c.end c.is_end))
      ∙ take-append_seam (92 ∷ (c.blanks ++ c.note)) c.end

  pub continued : (end : List ℕ) → IsLineEnd end → IsContinuation (before_end text ++ end)
  continued end is = record {
    blanks = c.blanks;
    note = c.note;
    end = end;
    joins = ap (λ l. 92 ∷ l) (sym (append_assoc c.blanks c.note end)) ∙ ap (λ t. t ++ end) (sym before-is);
    all_blank = c.all_blank;
    is_note = c.is_note;
    is_end = is;
  }

  pub no-return : (end : List ℕ) → IsLineEnd end → first_bare_return (before_end text ++ end) ≡ None
  no-return end is = bare_append (before_end text) end (no_return_in inside refl (before_end text) (ap (list_all inside) before-is ∙ all-inside)) (end-none end is)

  pub continues : (σ : Shape) (before end us later : List ℕ) → StandsBefore σ before (text ++ us) → StandsBefore σ before (((before_end text ++ end) ++ later) ++ [])
  continues σ before end us later h =
      subst (λ t. StandsBefore σ before (((t ++ end) ++ later) ++ [])) (sym before-is)
      (same-first σ before 92 ((c.blanks ++ (c.note ++ c.end)) ++ us) _ refl (subst (λ t. StandsBefore σ before (t ++ us)) (sym c.joins) h))
