-- After a push the places that are left still hold `Opened`. Assumes nothing.
use Rattle.std.proofs.lemmas.List.{drop-replicate, drop-set-lt, length-set, length-take-le, take-append-drop}
use lib.Seq.{drop-append-add}
use Rattle.std.proofs.Common.{take, drop, set, replicate, length}
use mathlib.Core.Path.{◌≡◌, sym, ◌∙◌, ap}
use mathlib.Core.List.{List, ◌++◌}
use Prim.Native.Nat.{ℕ, ◌+◌, ◌-◌, ◌<◌, ◌≤◌}
use native.Mathlib.Omega.{arith}
use Rattle.events.specs.declared.Event.{Event}
use Rattle.events.specs.declared.Event.TheVariants.{Opened}

-- with p before and n places left
left_after : (p : List Event) (n k : ℕ) → length p ≡ k → drop (k + 1) (p ++ replicate n Opened) ≡ replicate (n - 1) Opened
left_after p n k h = ap (λ i. drop (i + 1) (p ++ replicate n Opened)) (sym h) ∙ drop-append-add p (replicate n Opened) 1 ∙ drop-replicate 1 n Opened

pub after_push : (N k : ℕ) (l : List Event) (e : Event) → k < N → length l ≡ N → l ≡ take k l ++ replicate (N - k) Opened
    → (k + 1 ≤ N) × (length (set l k e) ≡ N) × (set l k e ≡ take (k + 1) (set l k e) ++ replicate (N - (k + 1)) Opened)
after_push N k l e h n is =
    let in_range : k < length l = omega arith in
    let few : N - k - 1 ≡ N - (k + 1) = omega arith in
    let rest : drop (k + 1) l ≡ replicate (N - (k + 1)) Opened =
    ap (drop (k + 1)) is ∙ left_after (take k l) (N - k) k (length-take-le k l (omega arith)) ∙ ap (λ m. replicate m Opened) few in
    (omega arith, length-set l k e ∙ n, sym (take-append-drop (k + 1) (set l k e)) ∙ ap (λ m. take (k + 1) (set l k e) ++ m) (drop-set-lt (k + 1) l k e (omega arith) ∙ rest))
