-- What is refused before the grammar is asked has no tree, and one fault.
use Rattle.std.proofs.Common.{◌≡◌, ◌≢◌, ℕ, ◌+◌, ◌⊎◌, inl, inr, List, [], ◌∷◌, ◌++◌, length, refl, sym, ap, subst}
use Rattle.std.specs.Prelude.{Result, Ok, Err, IfErr}
use Rattle.meson_lex.specs.declared.fault.LexFault.{LexFault}
use Rattle.meson_lex.specs.Items.{Lexeme, IsItemList}
use Rattle.meson_lex.specs.Lexed.{with_spans, faulty}
use Rattle.meson_lex.specs.Located.{located}
use Rattle.meson_lex.proofs.ScanLexed.{one_lexed}
use Rattle.meson_syntax.specs.declared.fault.ParseFault.{ParseFault}
use Rattle.meson_syntax.specs.declared.fault.ParseFault.TheVariants.{TooLarge, NotUtf8, ByteOrderMark, Lex, Unexpected, TooDeep, OutOfMemory}
use Rattle.meson_syntax.specs.declared.tree.Parsed.{Parsed}
use Rattle.meson_syntax.specs.Tree.{Plain, erase}
use Rattle.meson_syntax.specs.View.{view}
use Rattle.meson_syntax.specs.inside.Gathering.{IsFaulty}
use Rattle.meson_syntax.specs.inside.Input.{GivesAll}
use Rattle.meson_syntax.specs.inside.Nests.{IsGrammatical}
use Rattle.meson_syntax.specs.inside.ReadingFiles.{whole}
use Rattle.meson_syntax.specs.Reads.{IsSourceWithin, ReadsWithin, IsUnreadableWithin, HasNoTreeWithin, MayRefuseWithin, Is, Refuses}
use Rattle.meson_syntax.specs.declared.source.Limits.{Limits}
use Rattle.meson_syntax.specs.Reads.{too_large, not_utf8, marked, lexical}
use Rattle.meson_syntax.proofs.parsing.Answers.{not-both, readable, gives-refused}

pub unreadable-none : (limits : Limits) (source : List ℕ) (e : ParseFault) → IsUnreadableWithin limits source e → HasNoTreeWithin limits source
unreadable-none limits source e h t r = readable limits source r.spells.items r.source r.spells.are_items e h

-- two lists of items with a fault at the end have one fault
last-fault : (at : ℕ) (xs : List Lexeme) (f : LexFault) (pos : ℕ) (ys : List Lexeme) (g : LexFault) → with_spans at xs ++ Err f ∷ [] ≡ with_spans pos ys ++ Err g ∷ [] → f ≡ g
last-fault at [] f pos [] g e = cc
last-fault at [] f pos (y ∷ ys) g e = absurd cc
last-fault at (x ∷ xs) f pos [] g e = absurd cc
last-fault at (x ∷ xs) f pos (y ∷ ys) g e = last-fault (at + length x.text) xs f (pos + length y.text) ys g cc

pub one-unreadable : (limits : Limits) (source : List ℕ) (d e : ParseFault) → IsUnreadableWithin limits source d → IsUnreadableWithin limits source e → d ≡ e
one-unreadable limits source TooLarge TooLarge h k = refl
one-unreadable limits source TooLarge NotUtf8 (too_large large) (not_utf8 fits other) = absurd (not-both limits.len (length source) fits large)
one-unreadable limits source TooLarge ByteOrderMark (too_large large) (marked fits utf8 mark) = absurd (not-both limits.len (length source) fits large)
one-unreadable limits source TooLarge (Lex f) (too_large large) (lexical xs rest g is has) = absurd (not-both limits.len (length source) is.fits large)
one-unreadable limits source NotUtf8 TooLarge (not_utf8 fits other) (too_large large) = absurd (not-both limits.len (length source) fits large)
one-unreadable limits source NotUtf8 NotUtf8 h k = refl
one-unreadable limits source NotUtf8 ByteOrderMark (not_utf8 fits other) (marked small utf8 mark) = absurd (other utf8)
one-unreadable limits source NotUtf8 (Lex f) (not_utf8 fits other) (lexical xs rest g is has) = absurd (other is.utf8)
one-unreadable limits source ByteOrderMark TooLarge (marked fits utf8 mark) (too_large large) = absurd (not-both limits.len (length source) fits large)
one-unreadable limits source ByteOrderMark NotUtf8 (marked fits utf8 mark) (not_utf8 small other) = absurd (other utf8)
one-unreadable limits source ByteOrderMark ByteOrderMark h k = refl
one-unreadable limits source ByteOrderMark (Lex f) (marked fits utf8 mark) (lexical xs rest g is has) = absurd (is.no_mark mark)
one-unreadable limits source (Lex f) TooLarge (lexical xs rest g is has) (too_large large) = absurd (not-both limits.len (length source) is.fits large)
one-unreadable limits source (Lex f) NotUtf8 (lexical xs rest g is has) (not_utf8 fits other) = absurd (other is.utf8)
one-unreadable limits source (Lex f) ByteOrderMark (lexical xs rest g is has) (marked fits utf8 mark) = absurd (is.no_mark mark)
one-unreadable limits source (Lex f) (Lex g) (lexical xs rest fault is has) (lexical ys other found read holds) =
    ap Lex (last-fault 0 xs fault 0 ys found (one_lexed 0 source (with_spans 0 xs ++ Err fault ∷ []) (with_spans 0 ys ++ Err found ∷ []) (faulty xs rest fault has refl) (faulty ys other found holds refl)))
one-unreadable limits source (Unexpected at) e h k = elim h [ ]
one-unreadable limits source (TooDeep at) e h k = elim h [ ]
one-unreadable limits source OutOfMemory e h k = elim h [ ]
one-unreadable limits source d (Unexpected at) h k = elim k [ ]
one-unreadable limits source d (TooDeep at) h k = elim k [ ]
one-unreadable limits source d OutOfMemory h k = elim k [ ]

-- ---- the clauses of a function that refuses so

pub refused-finds : (limits : Limits) (source : List ℕ) (e : ParseFault) → IsUnreadableWithin limits source e → (t : Plain) → ReadsWithin limits source t → Is {X = Parsed} (λ p. erase (view source p)) (Err e) t
refused-finds limits source e h t r = absurd (unreadable-none limits source e h t r)

pub refused-unreadable : (limits : Limits) (source : List ℕ) (e fault : ParseFault) → IsUnreadableWithin limits source e → IsUnreadableWithin limits source fault → Refuses {X = Parsed} (Err e) fault
refused-unreadable limits source e fault h k = λ some. one-unreadable limits source e fault h k

pub refused-says : (limits : Limits) (source : List ℕ) (e : ParseFault) → IsUnreadableWithin limits source e → MayRefuseWithin limits source e
refused-says limits source TooLarge h = h
refused-says limits source NotUtf8 h = h
refused-says limits source ByteOrderMark h = h
refused-says limits source (Lex f) h = h
refused-says limits source (Unexpected at) h = elim h [ ]
refused-says limits source (TooDeep at) h = elim h [ ]
refused-says limits source OutOfMemory h = tt

-- a lexical fault of a source
pub faulty-unreadable : (limits : Limits) (source : List ℕ) (f : LexFault) → IsSourceWithin limits source → IsFaulty source f → IsUnreadableWithin limits source (Lex f)
faulty-unreadable limits source f is h = lexical h.items h.rest f is h.has

-- ---- the same where memory may have run out

abbrev pub Stopped : Limits → List ℕ → ParseFault → Type 0
Stopped limits source e = (e ≡ OutOfMemory) ⊎ IsUnreadableWithin limits source e

pub stopped-from : (limits : Limits) (source : List ℕ) (e : ParseFault) → IsSourceWithin limits source → (e ≢ OutOfMemory → (f : LexFault) × (e ≡ Lex f) × IsFaulty source f) → Stopped limits source e
stopped-from limits source OutOfMemory is h = inl refl
stopped-from limits source TooLarge is h = let f = h (λ e. absurd cc) in inr (subst (IsUnreadableWithin limits source) (sym f.1) (faulty-unreadable limits source f.0 is f.2))
stopped-from limits source NotUtf8 is h = let f = h (λ e. absurd cc) in inr (subst (IsUnreadableWithin limits source) (sym f.1) (faulty-unreadable limits source f.0 is f.2))
stopped-from limits source ByteOrderMark is h = let f = h (λ e. absurd cc) in inr (subst (IsUnreadableWithin limits source) (sym f.1) (faulty-unreadable limits source f.0 is f.2))
stopped-from limits source (Lex g) is h = let f = h (λ e. absurd cc) in inr (subst (IsUnreadableWithin limits source) (sym f.1) (faulty-unreadable limits source f.0 is f.2))
stopped-from limits source (Unexpected at) is h = let f = h (λ e. absurd cc) in inr (subst (IsUnreadableWithin limits source) (sym f.1) (faulty-unreadable limits source f.0 is f.2))
stopped-from limits source (TooDeep at) is h = let f = h (λ e. absurd cc) in inr (subst (IsUnreadableWithin limits source) (sym f.1) (faulty-unreadable limits source f.0 is f.2))

pub stopped-finds : (limits : Limits) (source : List ℕ) (e : ParseFault) → Stopped limits source e → (t : Plain) → ReadsWithin limits source t → Is {X = Parsed} (λ p. erase (view source p)) (Err e) t
stopped-finds limits source e (inl memory) t r = memory
stopped-finds limits source e (inr h) t r = refused-finds limits source e h t r

pub stopped-unreadable : (limits : Limits) (source : List ℕ) (e fault : ParseFault) → Stopped limits source e → IsUnreadableWithin limits source fault → Refuses {X = Parsed} (Err e) fault
stopped-unreadable limits source e fault (inl memory) k = λ some. absurd (some memory)
stopped-unreadable limits source e fault (inr h) k = refused-unreadable limits source e fault h k

pub stopped-says : (limits : Limits) (source : List ℕ) (e : ParseFault) → Stopped limits source e → MayRefuseWithin limits source e
stopped-says limits source e (inl memory) = subst (MayRefuseWithin limits source) (sym memory) tt
stopped-says limits source e (inr h) = refused-says limits source e h

-- where the grammar refuses
pub gives-says : (limits : Limits) (source : List ℕ) (items : List Lexeme) (is : IsSourceWithin limits source) (are : IsItemList source items) (result : Result Parsed ParseFault)
    → GivesAll (view source) (whole limits.depth (length source) (located items)) result → IfErr result IsGrammatical → IfErr result (MayRefuseWithin limits source)
gives-says limits source items is are (Ok p) h g = tt
gives-says limits source items is are (Err e) h g = gives-refused limits source items is are e g h
