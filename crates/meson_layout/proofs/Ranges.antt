-- The splices of two ranges that go.
use Rattle.std.proofs.Common.{◌≡◌, ℕ, ◌+◌, List, [], ◌∷◌, ◌++◌, length, take, drop, ap₂, arith}
use Rattle.meson_lex.specs.Items.{Lexeme, joined}
use Rattle.meson_layout.specs.declared.removal.Growth.{Growth}
use Rattle.meson_layout.specs.Looks.{but_last, last_few}
use Rattle.meson_layout.specs.Pieces.{splices}
use Rattle.meson_layout.specs.Removal.{gone, grown, two_gone, two_ranges}
use Rattle.meson_layout.proofs.Texts.{joined_three}

two_gone_splices : (file : List ℕ) (g h : Growth) (left own mid other right : List Lexeme)
    → splices file 0 (two_gone g h left own mid other right)
    ≡ gone file (length (joined (but_last g.before left))) (joined (last_few g.before left) ++ (joined own ++ joined (take g.behind (but_last h.before mid))))
    ∷ gone file (length (joined (but_last g.before left)) + length (joined (drop g.behind (but_last h.before mid)))) (joined (last_few h.before mid) ++ (joined other ++ joined (take h.behind right)))
    ∷ []
two_gone_splices file g h left own mid other right =
    let n = length (joined (but_last g.before left)) in
    let m = length (joined (drop g.behind (but_last h.before mid))) in
    let first : 0 + n ≡ n = omega arith in
    let second : 0 + n + 0 + m ≡ n + m = omega arith in
    ap₂ (λ a b. a ∷ b ∷ [])
    (ap₂ (gone file) first (joined_three (last_few g.before left) own (take g.behind (but_last h.before mid))))
    (ap₂ (gone file) second (joined_three (last_few h.before mid) other (take h.behind right)))

pub two_ranges_splices : (file : List ℕ) (left own mid other right between : List Lexeme) (g h : Growth) → h ≡ grown mid right → between ≡ but_last h.before mid → g ≡ grown left between
    → splices file 0 (two_ranges left own mid other right)
    ≡ gone file (length (joined (but_last g.before left))) (joined (last_few g.before left) ++ (joined own ++ joined (take g.behind between)))
    ∷ gone file (length (joined (but_last g.before left)) + length (joined (drop g.behind between))) (joined (last_few h.before mid) ++ (joined other ++ joined (take h.behind right)))
    ∷ []
two_ranges_splices file left own mid other right between g h is_h is_b is_g =
    rw (is_g, is_b, is_h) (two_gone_splices file (grown left (but_last (grown mid right).before mid)) (grown mid right) left own mid other right)
