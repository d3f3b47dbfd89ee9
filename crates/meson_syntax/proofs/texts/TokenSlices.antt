-- The tokens of a text are slices of it.
use Rattle.std.specs.Prelude.{slice_range}
use Rattle.std.proofs.Common.{◌≡◌, ℕ, ◌+◌, ◌-◌, Bool, true, false, List, [], ◌∷◌, ◌++◌, length, take, drop, refl, sym, ap, ◌∙◌, append_assoc, arith}
use Rattle.std.proofs.lemmas.List.{append-nil, length-append}
use Rattle.meson_lex.specs.Items.{Lexeme, joined}
use Rattle.meson_lex.specs.Significant.{Role, Gap, Ends, Opens, Closes, Other, role, State, start, step, after, ends_line, only_if}
use Rattle.meson_lex.specs.Located.{Token, line_end_at, spot_by, end_by, spots, end_after, closing_at}
use Rattle.meson_syntax.specs.Texts.{AreSlices, TokensAreSlices}
use Rattle.meson_syntax.proofs.Slices.{slice_range-part}

module _ (source : List ℕ) where
  append : (a b : List Token) → AreSlices source a → AreSlices source b → AreSlices source (a ++ b)
  append [] b v w = w
  append (t ∷ a) b v w = (v.0, append a b v.1 w)

  line_end : (at : ℕ) → [] ≡ slice_range source at at
  line_end at = let none : 0 ≡ at - at = omega arith in ap (λ n. take n (drop at source)) none

  line_end_if : (b : Bool) (at : ℕ) → AreSlices source (only_if b (line_end_at at))
  line_end_if true at = (line_end at, tt)
  line_end_if false at = tt

  closing : (fresh : Bool) (at : ℕ) → AreSlices source (closing_at fresh at)
  closing true at = tt
  closing false at = (line_end at, tt)

  spot : (r : Role) (s : State) (x : Lexeme) (end at : ℕ) → x.text ≡ slice_range source at (at + length x.text)
      → AreSlices source (spot_by r s x end at)
  spot Gap s x end at is = tt
  spot Ends s x end at is = line_end_if (ends_line s.depth s.fresh) end
  spot Opens s x end at is = (is, tt)
  spot Closes s x end at is = (is, tt)
  spot Other s x end at is = (is, tt)

  pub spots-slices : (xs : List Lexeme) (before behind : List ℕ) (s : State) (end at : ℕ) → source ≡ before ++ (joined xs ++ behind)
      → length before ≡ at → AreSlices source (spots s end at xs)
  spots-slices [] before behind s end at joins here = tt
  spots-slices (x ∷ xs) before behind s end at joins here =
      let split : source ≡ before ++ (x.text ++ (joined xs ++ behind)) = joins ∙ ap (λ l. before ++ l) (append_assoc x.text (joined xs) behind) in
      append (spot_by (role x.kind) s x end at) (spots (step s x) (end_by (role x.kind) x end at) (at + length x.text) xs)
      (spot (role x.kind) s x end at (sym (slice_range-part source before x.text (joined xs ++ behind) at (at + length x.text) split here refl)))
      (spots-slices xs (before ++ x.text) behind (step s x) (end_by (role x.kind) x end at) (at + length x.text)
      (split ∙ sym (append_assoc before x.text (joined xs ++ behind)))
      (length-append before x.text ∙ ap (λ n. n + length x.text) here))

  -- those of the whole text
  pub whole-slices : (xs : List Lexeme) → joined xs ≡ source → AreSlices source (spots start 0 0 xs)
  whole-slices xs joins = spots-slices xs [] [] start 0 0 (sym joins ∙ sym (append-nil (joined xs))) refl

pub tokens-slices : TokensAreSlices
tokens-slices source xs are =
    append source (spots start 0 0 xs) (closing_at (after start xs).fresh (end_after 0 0 xs)) (whole-slices source xs are.joins)
    (closing source (after start xs).fresh (end_after 0 0 xs))
