-- Where items of a text begin and end, as a walk over what the lexer gives finds it.
use Rattle.std.proofs.Common.{◌≡◌, ℕ, ◌+◌, ◌<◌, Bool, true, false, ◌||◌, List, [], ◌∷◌, ◌++◌, length, Result, Ok, Err, refl, sym, ap, ◌∙◌, ⊎_elim, arith, eqb}
use Rattle.std.proofs.lemmas.Bool.{or_cases, eqb-true, ltb-true}
use Rattle.std.proofs.lemmas.List.{append-nil, length-append}
use Rattle.std.specs.Bool.{OnTrue}
use Rattle.std.specs.Prelude.{if◌then◌else◌, nat_lt}
use Rattle.meson_lex.specs.declared.kinds.Item.{Item}
use Rattle.meson_lex.specs.declared.kinds.Kind.{Kind}
use Rattle.meson_lex.specs.declared.kinds.Kind.TheVariants as k
use Rattle.meson_lex.specs.declared.kinds.Span.{Span}
use Rattle.meson_lex.specs.declared.fault.LexFault.{LexFault}
use Rattle.meson_lex.specs.Items.{Lexeme, joined, IsItemList}
use Rattle.meson_lex.specs.Lexed.{with_spans, IsLexed}
use Rattle.meson_lex.specs.Significant.{Opens, role}
use Rattle.meson_layout.specs.Layout.{IsSpanOf, IsBracketOf}
use Rattle.meson_language_cases.specs.inside.Opening.{is_open}

-- no fault is among the results
abbrev pub is_clean : List (Result Item LexFault) → Bool
is_clean [] = true
is_clean (Ok x ∷ more) = is_clean more
is_clean (Err f ∷ more) = false

-- an item begins at the offset, or ends there, or is an opening bracket there
abbrev pub begins_at : ℕ → List (Result Item LexFault) → Bool
begins_at n [] = false
begins_at n (Ok x ∷ more) = eqb x.span.from n || begins_at n more
begins_at n (Err f ∷ more) = begins_at n more

abbrev pub ends_at : ℕ → List (Result Item LexFault) → Bool
ends_at n [] = false
ends_at n (Ok x ∷ more) = eqb x.span.to n || ends_at n more
ends_at n (Err f ∷ more) = ends_at n more

abbrev pub opens_at : ℕ → List (Result Item LexFault) → Bool
opens_at n [] = false
opens_at n (Ok x ∷ more) = (if is_open x.kind then eqb x.span.from n else false) || opens_at n more
opens_at n (Err f ∷ more) = opens_at n more

pub or-more : (a b c : Bool) → ((a || b) || c) ≡ (a || (b || c))
or-more true b c = refl
or-more false b c = refl

-- ---- splits

pub record Split (xs : List Lexeme) (n : ℕ) : Type 0 where
  pub front : List Lexeme
  pub rest : List Lexeme
  pub is : xs ≡ front ++ rest
  pub size : length (joined front) ≡ n

abbrev pub SplitFrom : ℕ → List Lexeme → ℕ → Type 0
SplitFrom at xs n = (front rest : List Lexeme) × (xs ≡ front ++ rest) × (at + length (joined front) ≡ n)

begin-split : (xs : List Lexeme) (at n : ℕ) → begins_at n (with_spans at xs) ≡ true → SplitFrom at xs n
begin-split [] at n h = absurd cc
begin-split (x ∷ xs) at n h =
    ⊎_elim
    (λ e. let same = eqb-true at n e in ([], x ∷ xs, refl, omega arith))
    (λ m. let r = begin-split xs (at + length x.text) n m in let size = length-append x.text (joined r.0) in let here = r.3 in (x ∷ r.0, r.1, ap (λ l. x ∷ l) r.2, omega arith))
    (or_cases _ _ h)

end-split : (xs : List Lexeme) (at n : ℕ) → ends_at n (with_spans at xs) ≡ true → SplitFrom at xs n
end-split [] at n h = absurd cc
end-split (x ∷ xs) at n h =
    ⊎_elim
    (λ e. let same = eqb-true (at + length x.text) n e in let nil = append-nil x.text in (x ∷ [], xs, refl, omega (arith, ap length nil)))
    (λ m. let r = end-split xs (at + length x.text) n m in let size = length-append x.text (joined r.0) in let here = r.3 in (x ∷ r.0, r.1, ap (λ l. x ∷ l) r.2, omega arith))
    (or_cases _ _ h)

longer-step : (x y first : Lexeme) (a c more : List Lexeme) → x ≡ y → c ≡ a ++ first ∷ more → y ∷ c ≡ x ∷ (a ++ first ∷ more)
longer-step x y first a c more e f = λ i. sym e i ∷ f i

-- of two fronts of a list the longer one goes on behind the shorter one
longer : (a b c d : List Lexeme) → a ++ b ≡ c ++ d → length (joined a) < length (joined c) → (first : Lexeme) × (more : List Lexeme) × (c ≡ a ++ first ∷ more)
longer a b [] d e h = absurd (omega arith)
longer [] b (y ∷ c) d e h = (y, c, refl)
longer (x ∷ a) b (y ∷ c) d e h =
    let same : x ≡ y = cc in
    let rest : a ++ b ≡ c ++ d = cc in
    let texts = ap (λ (z : Lexeme). length z.text) same in
    let one = length-append x.text (joined a) in
    let two = length-append y.text (joined c) in
    let r = longer a b c d rest (omega arith) in
    (r.0, r.1, longer-step x y r.0 a c r.1 same r.2)

append-end : (a c b d : List Lexeme) (xs : List Lexeme) → xs ≡ c ++ d → c ≡ a ++ b → xs ≡ a ++ (b ++ d)
append-end a c b d xs e f = e ∙ ap (λ l. l ++ d) f ∙ Rattle.std.proofs.Common.append_assoc a b d

span-of : (xs : List Lexeme) (s : Span) → begins_at s.from (with_spans 0 xs) ≡ true → ends_at s.to (with_spans 0 xs) ≡ true → s.from < s.to → IsSpanOf xs s
span-of xs s b e h =
    let from = begin-split xs 0 s.from b in
    let to = end-split xs 0 s.to e in
    let from_size = from.3 in
    let to_size = to.3 in
    let shorter : length (joined from.0) < length (joined to.0) = omega arith in
    let own = longer from.0 from.1 to.0 to.1 (sym from.2 ∙ to.2) shorter in
    record {
      left = from.0;
      first = own.0;
      more = own.1;
      right = to.1;
      joins = append-end from.0 to.0 (own.0 ∷ own.1) to.1 xs to.2 own.2;
      from = omega arith;
      to = sym to_size ∙ (let zero_left : 0 + length (joined to.0) ≡ length (joined to.0) = omega arith in zero_left) ∙ ap (λ l. length (joined l)) own.2;
    }

opens-kind : (κ : Kind) → is_open κ ≡ true → role κ ≡ Opens
opens-kind k.OpenRound h = refl
opens-kind k.OpenSquare h = refl
opens-kind k.OpenCurly h = refl
opens-kind _ h = absurd cc

if-both : (b c : Bool) → Rattle.std.proofs.Common.cond b c false ≡ true → (b ≡ true) × (c ≡ true)
if-both true c h = (refl, h)
if-both false c h = absurd cc

abbrev BracketFrom : ℕ → List Lexeme → ℕ → Type 0
BracketFrom at xs n = (front : List Lexeme) × (x : Lexeme) × (rest : List Lexeme) × (xs ≡ front ++ x ∷ rest) × (at + length (joined front) ≡ n) × (role x.kind ≡ Opens)

open-split : (xs : List Lexeme) (at n : ℕ) → opens_at n (with_spans at xs) ≡ true → BracketFrom at xs n
open-split [] at n h = absurd cc
open-split (x ∷ xs) at n h =
    ⊎_elim
    (λ e. let p = if-both (is_open x.kind) (eqb at n) e in let same = eqb-true at n p.1 in ([], x, xs, refl, omega arith, opens-kind x.kind p.0))
    (λ m. let r = open-split xs (at + length x.text) n m in let size = length-append x.text (joined r.0) in let here = r.4 in (x ∷ r.0, r.1, r.2, ap (λ l. x ∷ l) r.3, omega arith, r.5))
    (or_cases _ _ h)

bracket-of : (xs : List Lexeme) (at : ℕ) → opens_at at (with_spans 0 xs) ≡ true → IsBracketOf xs at
bracket-of xs at h =
    let r = open-split xs 0 at h in
    let size = r.4 in
    record { left = r.0; bracket = r.1; right = r.2; joins = r.3; place = omega arith; opens = r.5 }

-- ---- what the walk found

clean-more : (xs : List Lexeme) (at : ℕ) (f : LexFault) → is_clean (with_spans at xs ++ Err f ∷ []) ≡ true → ⊥
clean-more [] at f h = absurd cc
clean-more (x ∷ xs) at f h = clean-more xs (at + length x.text) f h

whole-of : (source : List ℕ) (results : List (Result Item LexFault)) → IsLexed 0 source results → is_clean results ≡ true → (xs : List Lexeme) × IsItemList source xs × (results ≡ with_spans 0 xs)
whole-of source results (IsLexed.whole xs list are) h = (xs, list, are)
whole-of source results (IsLexed.faulty xs rest f has are) h = absurd (clean-more xs 0 f (sym (ap is_clean are) ∙ h))

abbrev pub HasSpan : List ℕ → Span → Type 0
HasSpan source s = (xs : List Lexeme) × IsItemList source xs × IsSpanOf xs s

pub span-found : (source : List ℕ) (results : List (Result Item LexFault)) (s : Span) → IsLexed 0 source results → is_clean results ≡ true → begins_at s.from results ≡ true → ends_at s.to results ≡ true → s.from < s.to → HasSpan source s
span-found source results s lexed clean b e h =
    let w = whole-of source results lexed clean in
    (w.0, w.1, span-of w.0 s (sym (ap (begins_at s.from) w.2) ∙ b) (sym (ap (ends_at s.to) w.2) ∙ e) h)

abbrev pub HasBracket : List ℕ → ℕ → Type 0
HasBracket source at = (xs : List Lexeme) × IsItemList source xs × IsBracketOf xs at

pub bracket-found : (source : List ℕ) (results : List (Result Item LexFault)) (at : ℕ) → IsLexed 0 source results → is_clean results ≡ true → opens_at at results ≡ true → HasBracket source at
bracket-found source results at lexed clean h =
    let w = whole-of source results lexed clean in
    (w.0, w.1, bracket-of w.0 at (sym (ap (opens_at at) w.2) ∙ h))

pub list-found : (source : List ℕ) (results : List (Result Item LexFault)) → IsLexed 0 source results → is_clean results ≡ true → (xs : List Lexeme) × IsItemList source xs
list-found source results lexed clean = let w = whole-of source results lexed clean in (w.0, w.1)

-- what the walk found, at its end
module _ (source : List ℕ) (results begun left : List (Result Item LexFault)) (lexed : IsLexed 0 source results) (start : begun ≡ results) (none : left ≡ []) (clean : is_clean left ≡ is_clean begun) where
  all-clean : is_clean results ≡ true
  all-clean = sym (ap is_clean (sym none) ∙ clean ∙ ap is_clean start)

  pub walked-list : (xs : List Lexeme) × IsItemList source xs
  walked-list = list-found source results lexed all-clean

  pub walked-bracket : (at : ℕ) (opens : Bool) → (opens || opens_at at left) ≡ opens_at at begun → OnTrue opens (HasBracket source at)
  walked-bracket at true found = bracket-found source results at lexed all-clean (sym (found ∙ ap (opens_at at) start))
  walked-bracket at false found = tt

  pub walked-span : (s : Span) (begins ends : Bool) → begins ≡ true → ends ≡ true → (begins || begins_at s.from left) ≡ begins_at s.from begun → (ends || ends_at s.to left) ≡ ends_at s.to begun → OnTrue (nat_lt s.from s.to) (HasSpan source s)
  walked-span s begins ends b e found_from found_to =
      let from : begins_at s.from results ≡ true = sym (ap (λ c. c || begins_at s.from left) (sym b) ∙ found_from ∙ ap (begins_at s.from) start) in
      let to : ends_at s.to results ≡ true = sym (ap (λ c. c || ends_at s.to left) (sym e) ∙ found_to ∙ ap (ends_at s.to) start) in
      on-true (nat_lt s.from s.to) (λ h. span-found source results s lexed all-clean from to (ltb-true s.from s.to h))
    where
      on-true : (b : Bool) → (b ≡ true → HasSpan source s) → OnTrue b (HasSpan source s)
      on-true true h = h refl
      on-true false h = tt
