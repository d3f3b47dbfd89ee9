-- What may stand beside what: anything behind a loose item, and a soft text behind all but a comment.
use Rattle.std.proofs.Common.{◌≡◌, ℕ, Bool, true, false, not, ◌||◌, List, [], ◌∷◌, ◌++◌, refl, sym, ap, ◌∙◌, subst, inl, inr, ◌⊎◌}
use Rattle.std.proofs.lemmas.Bool.{false≢true}
use Rattle.std.specs.Prelude.{⊤}
use Rattle.meson_lex.specs.declared.kinds.Kind.{Kind}
use Rattle.meson_lex.specs.declared.kinds.Kind.TheVariants as k
use Rattle.meson_lex.specs.Bytes.{is_line_byte, is_equals, begins}
use Rattle.meson_lex.specs.Neighbours.{Shape, blanks, note, name, word, quoted, format_quoted, extendable, closed, shape}
use Rattle.meson_lex.specs.Items.{Lexeme}
use Rattle.meson_lex.specs.Significant.{Word, Role, Gap, Ends, Opens, Closes, Other, role, kept, State, start, step, emit_by, emitted, ends_line, only_if, new_line}
use Rattle.meson_layout.specs.Looks as look
use Rattle.meson_lex.specs.Words as lex
use Rattle.meson_layout.specs.Words as w
use Rattle.meson_layout.specs.FileLaws.{IsAssignment}
use Rattle.meson_layout.specs.Pieces.{line_feed}
use Rattle.meson_layout.proofs.FirstBytes.{IsSoft, some_text, soft_item, line_first, line_item, no_line_first}
use Rattle.meson_layout.proofs.Near.{StandsBy, Near, Follow, IsGood, AllGood, IsLoose, last}

-- ---- soft texts

is_note : Shape → Bool
is_note blanks = false
is_note note = true
is_note name = false
is_note word = false
is_note quoted = false
is_note format_quoted = false
is_note extendable = false
is_note closed = false

note-shape : (κ : Kind) → look.is_comment κ ≡ false → is_note (shape κ) ≡ false
unfolding is_note
note-shape k.Comment h = absurd cc
note-shape _ h = refl

soft-by : (σ : Shape) (text next : List ℕ) → is_note σ ≡ false → IsSoft next → StandsBy σ text next
unfolding is_note
soft-by blanks text next n h = tt
soft-by note text next n h = absurd cc
soft-by name text next n h = (h.no_word, λ e. h.no_quote)
soft-by word text next n h = h.no_word
soft-by quoted text next n h = λ e. h.no_quote
soft-by format_quoted text next n h = λ e. h.no_quote
soft-by extendable text next n h = h.no_equals
soft-by closed text next n h = tt

pub near-soft : (x y : Lexeme) → look.is_comment x.kind ≡ false → IsSoft y.text → Near x y
near-soft x y c s = soft-by (shape x.kind) x.text y.text (note-shape x.kind c) s

line-by : (σ : Shape) (text next : List ℕ) → (begins is_line_byte next ≡ true) × (Rattle.meson_lex.specs.Bytes.begins_bare_return next ≡ false) × IsSoft next → StandsBy σ text next
line-by blanks text next h = tt
line-by note text next h = inr (h.0, h.1)
line-by name text next h = (h.2.no_word, λ e. h.2.no_quote)
line-by word text next h = h.2.no_word
line-by quoted text next h = λ e. h.2.no_quote
line-by format_quoted text next h = λ e. h.2.no_quote
line-by extendable text next h = h.2.no_equals
line-by closed text next h = tt

-- a line end may stand behind everything
pub near-line : (x y : Lexeme) → look.is_line_end y.kind ≡ true → IsGood y → Near x y
near-line x y h g = line-by (shape x.kind) x.text y.text (line_first y.text (line_item y h g.0))

-- before what is no line end no comment stands
pub no-comment : (x y : Lexeme) → Near x y → look.is_line_end y.kind ≡ false → IsGood y → look.is_comment x.kind ≡ false
no-comment x y near h g = by-kind x.kind near
  where
    by-kind : (κ : Kind) → StandsBy (shape κ) x.text y.text → look.is_comment κ ≡ false
    by-kind k.Comment (inl e) = absurd (some_text y.kind y.text g.0 e)
    by-kind k.Comment (inr p) = absurd (false≢true (sym (no_line_first y h g.0) ∙ p.0))
    by-kind _ near = refl

-- ---- loose items

abbrev pub loose : Kind → Bool
loose k.Blank = true
loose k.LineEnd = true
loose k.Continuation = true
loose k.OpenRound = true
loose k.OpenSquare = true
loose k.OpenCurly = true
loose k.CloseRound = true
loose k.CloseSquare = true
loose k.CloseCurly = true
loose k.Comma = true
loose k.Colon = true
loose _ = false

loose-by : (κ : Kind) (text next : List ℕ) → loose κ ≡ true → StandsBy (shape κ) text next
loose-by k.Blank text next h = tt
loose-by k.LineEnd text next h = tt
loose-by k.Continuation text next h = tt
loose-by k.OpenRound text next h = tt
loose-by k.OpenSquare text next h = tt
loose-by k.OpenCurly text next h = tt
loose-by k.CloseRound text next h = tt
loose-by k.CloseSquare text next h = tt
loose-by k.CloseCurly text next h = tt
loose-by k.Comma text next h = tt
loose-by k.Colon text next h = tt
loose-by _ text next h = absurd cc

pub near-loose : (x : Lexeme) → loose x.kind ≡ true → IsLoose x
near-loose x h = λ y. loose-by x.kind x.text y.text h

-- another item before the same items
pub reloose : (a b : Lexeme) (ys : List Lexeme) → IsLoose b → Follow a ys → Follow b ys
reloose a b [] l h = tt
reloose a b (y ∷ ys) l h = (l y, h.1)

abbrev pub SoftFirst : List Lexeme → Type 0
SoftFirst [] = ⊤
SoftFirst (y ∷ ys) = IsSoft y.text

pub resoft : (a b : Lexeme) (ys : List Lexeme) → look.is_comment b.kind ≡ false → SoftFirst ys → Follow a ys → Follow b ys
resoft a b [] c s h = tt
resoft a b (y ∷ ys) c s h = (near-soft b y c s, h.1)

-- ---- kinds by their roles

pub opens-loose : (κ : Kind) → role κ ≡ Opens → loose κ ≡ true
opens-loose k.OpenRound h = refl
opens-loose k.OpenSquare h = refl
opens-loose k.OpenCurly h = refl
opens-loose _ h = absurd cc

pub closes-closing : (κ : Kind) → role κ ≡ Closes → look.is_closing κ ≡ true
closes-closing k.CloseRound h = refl
closes-closing k.CloseSquare h = refl
closes-closing k.CloseCurly h = refl
closes-closing _ h = absurd cc

-- what is no token inside brackets, but for comments
quiet-loose : (κ : Kind) → lex.speaks (role κ) ≡ false → look.is_comment κ ≡ false → loose κ ≡ true
quiet-loose k.Blank h c = refl
quiet-loose k.LineEnd h c = refl
quiet-loose k.Comment h c = absurd cc
quiet-loose k.Continuation h c = refl
quiet-loose _ h c = absurd cc

pub gap-quiet : (κ : Kind) → look.is_gap κ ≡ not (lex.speaks (role κ))
gap-quiet k.Blank = refl
gap-quiet k.LineEnd = refl
gap-quiet k.Comment = refl
gap-quiet k.Continuation = refl
gap-quiet _ = refl

pub speaks-no-line : (κ : Kind) → lex.speaks (role κ) ≡ true → look.is_line_end κ ≡ false
speaks-no-line k.LineEnd h = absurd cc
speaks-no-line _ h = refl

pub speaks-no-comment : (κ : Kind) → lex.speaks (role κ) ≡ true → look.is_comment κ ≡ false
speaks-no-comment k.Comment h = absurd cc
speaks-no-comment _ h = refl

-- ---- the last item before an element

last_word : Word → List Word → Word
last_word a [] = a
last_word a (b ∷ bs) = last_word b bs

last_word-append : (a : Word) (bs cs : List Word) → last_word a (bs ++ cs) ≡ last_word (last_word a bs) cs
unfolding last_word
last_word-append a [] cs = refl
last_word-append a (b ∷ bs) cs = last_word-append b bs cs

abbrev Fine : Lexeme → Word → Type 0
Fine x a = (lex.speaks (role x.kind) ≡ false) ⊎ (lex.word x ≡ a)

fine-step : (r : Role) (x : Lexeme) (a : Word) (bs : List Word) → role x.kind ≡ r → (b : Word) × Fine x b × (last_word a (lex.spoken_by r (lex.word x) ++ bs) ≡ last_word b bs)
unfolding last_word
fine-step Gap x a bs h = (a, inl (ap lex.speaks h), refl)
fine-step Ends x a bs h = (a, inl (ap lex.speaks h), refl)
fine-step Opens x a bs h = (lex.word x, inr refl, refl)
fine-step Closes x a bs h = (lex.word x, inr refl, refl)
fine-step Other x a bs h = (lex.word x, inr refl, refl)

fine-last : (o : Lexeme) (a : Word) (xs : List Lexeme) → Fine o a → Fine (last o xs) (last_word a (lex.spoken xs))
unfolding last_word
fine-last o a [] h = h
fine-last o a (x ∷ xs) h = let f = fine-step (role x.kind) x a (lex.spoken xs) refl in subst (Fine (last x xs)) (sym f.2) (fine-last x f.0 xs f.1)

kind-loose : (x : Lexeme) (κ : Kind) (text : List ℕ) → lex.word x ≡ (κ, text) → loose κ ≡ true → loose x.kind ≡ true
kind-loose x κ text e h = ap (λ (a : Word). loose a.0) e ∙ h

loose-ends : (o : Lexeme) (xs : List Lexeme) → loose o.kind ≡ true → w.IsBeforeValue (lex.spoken xs) → look.is_comment (last o xs).kind ≡ false → (b : Word) → last_word (lex.word o) (lex.spoken xs) ≡ b → Fine (last o xs) b → loose (last o xs).kind ≡ true
unfolding last_word
loose-ends o xs l ends c b is (inl h) = quiet-loose (last o xs).kind h c
loose-ends o xs l (inl (inl e)) c b is (inr h) =
    let same : lex.word (last o xs) ≡ lex.word o = h ∙ sym is ∙ ap (last_word (lex.word o)) e in
    kind-loose (last o xs) o.kind (kept o.kind o.text) same l
loose-ends o xs l (inl (inr (front, e))) c b is (inr h) =
    let same : lex.word (last o xs) ≡ w.comma_word = h ∙ sym is ∙ ap (last_word (lex.word o)) e ∙ last_word-append (lex.word o) front (w.comma_word ∷ []) in
    kind-loose (last o xs) k.Comma [] same refl
loose-ends o xs l (inr (front, e)) c b is (inr h) =
    let same : lex.word (last o xs) ≡ w.colon_word = h ∙ sym is ∙ ap (last_word (lex.word o)) e ∙ last_word-append (lex.word o) front (w.colon_word ∷ []) in
    kind-loose (last o xs) k.Colon [] same refl

-- the last item before an element or a value, which no comment is, is loose
pub loose-last : (o : Lexeme) (xs : List Lexeme) → role o.kind ≡ Opens → w.IsBeforeValue (lex.spoken xs) → look.is_comment (last o xs).kind ≡ false → IsLoose (last o xs)
loose-last o xs opens ends c =
    near-loose (last o xs) (loose-ends o xs (opens-loose o.kind opens) ends c _ refl (fine-last o (lex.word o) xs (inr refl)))

-- ---- the last item before an assigned value

told-line : (b : Bool) (x : Lexeme) (a : Word) (bs : List Word) → lex.speaks (role x.kind) ≡ false → (c : Word) × Fine x c × (last_word a (only_if b new_line ++ bs) ≡ last_word c bs)
unfolding last_word
told-line true x a bs h = (new_line, inl h, refl)
told-line false x a bs h = (a, inl h, refl)

told-step : (r : Role) (s : State) (x : Lexeme) (a : Word) (bs : List Word) → role x.kind ≡ r → (b : Word) × Fine x b × (last_word a (emit_by r s (lex.word x) ++ bs) ≡ last_word b bs)
unfolding last_word
told-step Gap s x a bs h = (a, inl (ap lex.speaks h), refl)
told-step Ends s x a bs h = told-line (ends_line s.depth s.fresh) x a bs (ap lex.speaks h)
told-step Opens s x a bs h = (lex.word x, inr refl, refl)
told-step Closes s x a bs h = (lex.word x, inr refl, refl)
told-step Other s x a bs h = (lex.word x, inr refl, refl)

told-last : (s : State) (o : Lexeme) (a : Word) (xs : List Lexeme) → Fine o a → Fine (last o xs) (last_word a (emitted s xs))
unfolding last_word
told-last s o a [] h = h
told-last s o a (x ∷ xs) h =
    let f = told-step (role x.kind) s x a (emitted (step s x) xs) refl in
    subst (Fine (last x xs)) (sym f.2) (told-last (step s x) x f.0 xs f.1)

assigns-by : (κ : Kind) (text next : List ℕ) → IsAssignment κ → begins is_equals next ≡ false → StandsBy (shape κ) text next
assigns-by κ text next (inl e) n = subst (λ κ. StandsBy (shape κ) text next) (sym e) n
assigns-by κ text next (inr e) n = subst (λ κ. StandsBy (shape κ) text next) (sym e) tt

-- behind an assignment's token may stand all that begins with no `=`
pub assigns-last : (left : List Lexeme) (ahead : List Word) (κ : Kind) → IsAssignment κ → emitted start left ≡ ahead ++ (κ, []) ∷ [] → look.is_comment (last line_feed left).kind ≡ false
    → (y : Lexeme) → begins is_equals y.text ≡ false → Near (last line_feed left) y
unfolding last_word
assigns-last left ahead κ assigns is calm y n = by (told-last start line_feed new_line left (inl refl))
  where
    same : last_word new_line (emitted start left) ≡ (κ, [])
    same = ap (last_word new_line) is ∙ last_word-append new_line ahead ((κ, []) ∷ [])

    by : Fine (last line_feed left) (last_word new_line (emitted start left)) → Near (last line_feed left) y
    by (inl h) = near-loose (last line_feed left) (quiet-loose (last line_feed left).kind h calm) y
    by (inr h) =
        let kind : (last line_feed left).kind ≡ κ = ap (λ (a : Word). a.0) (h ∙ same) in
        subst (λ κ. StandsBy (shape κ) (last line_feed left).text y.text) (sym kind) (assigns-by κ (last line_feed left).text y.text assigns n)

-- ---- the first item behind an element

soft-speaking : (y : Lexeme) (bs : List Word) → IsGood y → w.IsBehindElement (lex.word y ∷ bs) → IsSoft y.text
soft-speaking y bs g (inl e) = absurd cc
soft-speaking y bs g (inr (more, e)) =
    let same : lex.word y ≡ w.comma_word = cc in
    let kind : y.kind ≡ k.Comma = ap (λ (a : Word). a.0) same in
    soft_item y (rw kind refl) g.0

soft-by-role : (r : Role) (y : Lexeme) (bs : List Word) → role y.kind ≡ r → IsGood y → w.IsBehindElement (lex.spoken_by r (lex.word y) ++ bs) → IsSoft y.text
soft-by-role Gap y bs h g e = soft_item y (ap (λ b. b || (look.is_comma y.kind || look.is_closing y.kind)) (gap-quiet y.kind ∙ ap (λ r. not (lex.speaks r)) h)) g.0
soft-by-role Ends y bs h g e = soft_item y (ap (λ b. b || (look.is_comma y.kind || look.is_closing y.kind)) (gap-quiet y.kind ∙ ap (λ r. not (lex.speaks r)) h)) g.0
soft-by-role Opens y bs h g e = soft-speaking y bs g e
soft-by-role Closes y bs h g e = soft-speaking y bs g e
soft-by-role Other y bs h g e = soft-speaking y bs g e

closing-soft : (a b d : Bool) → d ≡ true → (a || (b || d)) ≡ true
closing-soft true b d h = refl
closing-soft false true d h = refl
closing-soft false false d h = h

pub soft-close : (c : Lexeme) → role c.kind ≡ Closes → IsGood c → IsSoft c.text
soft-close c h g = soft_item c (closing-soft _ _ _ (closes-closing c.kind h)) g.0

pub soft-behind : (xs : List Lexeme) (c : Lexeme) (ys : List Lexeme) → w.IsBehindElement (lex.spoken xs) → role c.kind ≡ Closes → AllGood (xs ++ c ∷ ys) → SoftFirst (xs ++ c ∷ ys)
soft-behind [] c ys h closes g = soft-close c closes g.0
soft-behind (x ∷ xs) c ys h closes g = soft-by-role (role x.kind) x (lex.spoken xs) refl g.0 h
