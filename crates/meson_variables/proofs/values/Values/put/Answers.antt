use Rattle.meson_variables.proofs.Words.{◌≡◌, ℕ, List, Bor, ◌∙◌, sym, subst, true, bytes_eq, Option, Some, None, bytes_decides, HashMap, get_by}
use Rattle.meson_variables.proofs.Words.{hash_map_updates_str}
use Rattle.meson_variables.proofs.Assignments.{put_first, put_again}
use Rattle.meson_variables.proofs.values.Values.put.Goals as goal

-- what stands at a name stands at each that equals it
same_name : {X H : Type 0} (m : HashMap (Bor (List ℕ)) X H) (y x : List ℕ) (found : Option X) →
    get_by (λ k. bytes_eq y k.now) m ≡ found → bytes_eq y x ≡ true → get_by (λ k. bytes_eq x k.now) m ≡ found
same_name m y x found is same = subst (λ z. get_by (λ k. bytes_eq z k.now) m ≡ found) ((bytes_decides y x).0 same) is

pub returns-in_ok-insert-in-Some : goal.returns-in_ok-insert-in-Some
returns-in_ok-insert-in-Some c = λ x.
    let y = c.args.name.now in
    let m = c.args.self.now.by_name in
    let n = c.insert.new.self in
    let o = c.insert-in-Some.new.self in
    put_again c.args.value (bytes_eq y x) (get_by (λ k. bytes_eq x k.now) m) (get_by (λ k. bytes_eq x k.now) o) c.in-Some.field-0 (get_by (λ k. bytes_eq x k.now) n)
    (same_name m y x (Some c.in-Some.field-0) (sym c.in_ok-insert.ensures.old ∙ c.in-Some.is))
    (hash_map_updates_str y m n (Some c.args.value) c.in_ok-insert.ensures.updates x)
    (hash_map_updates_str y n o (Some None) c.in_ok-insert-in-Some.ensures.updates x)

pub returns-in-None : goal.returns-in-None
returns-in-None c = λ x.
    let y = c.args.name.now in
    let m = c.args.self.now.by_name in
    let n = c.insert.new.self in
    put_first c.args.value (bytes_eq y x) (get_by (λ k. bytes_eq x k.now) m) (get_by (λ k. bytes_eq x k.now) n)
    (same_name m y x None (sym c.in_ok-insert.ensures.old ∙ c.in-None.is))
    (hash_map_updates_str y m n (Some c.args.value) c.in_ok-insert.ensures.updates x)
