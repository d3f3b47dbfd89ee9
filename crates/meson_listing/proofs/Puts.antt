-- Keyword arguments put at their names, one after another.
use Rattle.std.proofs.Common.{◌≡◌, ℕ, List, [], ◌∷◌, ◌++◌, refl}
use Rattle.serde_json.specs.Data.{Members, put}
use Rattle.meson_details.specs.declared.details.Shown.{Shown}
use Rattle.meson_listing.specs.Entries.{put_each, shown_data}

pub put_one_more : (ms : Members) (pairs : List (List ℕ × Shown)) (p : List ℕ × Shown) → put_each ms (pairs ++ p ∷ []) ≡ put p.0 (shown_data p.1) (put_each ms pairs)
put_one_more ms [] p = refl
put_one_more ms (q ∷ pairs) p = put_one_more (put q.0 (shown_data q.1) ms) pairs p
