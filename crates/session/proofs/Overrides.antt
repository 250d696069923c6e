-- Applying a profile, one override at a time.
use Rattle.std.proofs.Common.{◌≡◌, ℕ, ◌+◌, ◌<◌, ◌≤◌, Bool, true, false, cond, List, [], ◌∷◌, length, drop, Some, None, Option, sym, ap, ◌∙◌, inl, inr, arith}
use Rattle.std.proofs.lemmas.List.{drop_all, drop_more}
use Rattle.std.proofs.lemmas.Option.{get_or_from_slice_get, slice_get_cases, slice_get_within}
use Rattle.std.specs.List.{slice_get}
use Rattle.entries.specs.declared.taker.Override.{Override}
use Rattle.entries.specs.declared.method.Rule.{Rule}
use Rattle.entries.specs.Columns.{Column}
use Rattle.session.specs.declared.state.Setting.{Setting}
use Rattle.session.specs.Profiles.{permitted, applied_one, applied, applied_count}

-- a loop over a profile that has asked for i overrides, got m, and applied n of them
pub record Turn (column : Column) (os : List Override) (ts₀ ts : List Setting) (i n m : ℕ) : Type 0 where
  pub state : applied column (drop i os) ts ≡ applied column os ts₀
  pub count : n + applied_count column (drop i os) ≡ applied_count column os
  pub seen : m + length (drop i os) ≡ length os
  pub fewer : n ≤ m
  pub most : m ≤ i
  pub bound : 0 < i → length os ≤ 32

one : (b : Bool) → cond b 1 0 ≤ 1
one true = omega arith
one false = omega arith

pub turn_some :
    {column : Column} {os : List Override} {ts₀ ts us : List Setting} {i n m k j : ℕ} (o : Override) (q : Option Rule) (r : Bool)
    → Some o ≡ slice_get os i → length os ≤ 32 → q ≡ column o.trigger → r ≡ permitted q o → us ≡ applied_one q o ts
    → k ≡ n + cond r 1 0 → j ≡ m + 1 → Turn column os ts₀ ts i n m → Turn column os ts₀ us (i + 1) k j
turn_some {column} {os} {ts₀} {ts} {us} {i} {n} {m} {k} {j} o q r at few qe e' f' g s T =
    let e : r ≡ permitted (column o.trigger) o = e' ∙ ap (λ x. permitted x o) qe in
    let f : us ≡ applied_one (column o.trigger) o ts = f' ∙ ap (λ x. applied_one x o ts) qe in
    let d : drop i os ≡ o ∷ drop (i + 1) os =
    drop_more os i o (slice_get_within os i o (sym at)) ∙ ap (λ x. x ∷ drop (i + 1) os) (get_or_from_slice_get os i o o (sym at)) in
    let c : applied_count column (drop i os) ≡ cond r 1 0 + applied_count column (drop (i + 1) os) =
    ap (applied_count column) d ∙ ap (λ b. cond b 1 0 + applied_count column (drop (i + 1) os)) (sym e) in
    let l : length (drop i os) ≡ length (drop (i + 1) os) + 1 = omega (arith, ap length d) in
    record {
      state = ap (applied column (drop (i + 1) os)) f ∙ sym (ap (λ xs. applied column xs ts) d) ∙ T.state;
      count = omega (arith, g, c, T.count);
      seen = omega (arith, l, s, T.seen);
      fewer = omega (arith, g, s, T.fewer, one r);
      most = omega (arith, s, T.most);
      bound = λ h. few;
    }

pub turn_past :
    {column : Column} {os : List Override} {ts₀ ts us : List Setting} {i n m k j : ℕ} → None ≡ slice_get os i → length os ≤ 32 → us ≡ ts → k ≡ n → j ≡ m
    → Turn column os ts₀ ts i n m → Turn column os ts₀ us (i + 1) k j
turn_past {column} {os} {ts₀} {ts} {us} {i} {n} {m} {k} {j} at few f g s T =
    let p : length os ≤ i = elim (slice_get_cases os i).1 [ inl w ↦ absurd (let z : ◌≡◌ {A = ℕ} 0 1 = cc in omega arith) | inr w ↦ w.0 ] in
    let d : drop (i + 1) os ≡ drop i os = drop_all (i + 1) os (omega (arith, p)) ∙ sym (drop_all i os p) in
    record {
      state = ap (applied column (drop (i + 1) os)) f ∙ ap (λ xs. applied column xs ts) d ∙ T.state;
      count = omega (arith, g, ap (applied_count column) d, T.count);
      seen = omega (arith, s, ap length d, T.seen);
      fewer = omega (arith, g, s, T.fewer);
      most = omega (arith, s, T.most);
      bound = λ h. few;
    }

pub turn_all :
    {column : Column} {os : List Override} {ts₀ ts : List Setting} {i n m : ℕ} → 32 ≤ i → Turn column os ts₀ ts i n m
    → (ts ≡ applied column os ts₀) × (n ≡ applied_count column os) × (m ≡ length os)
turn_all {column} {os} {ts₀} {ts} {i} {n} {m} h T =
    let d : drop i os ≡ [] = drop_all i os (omega (arith, T.bound (omega arith))) in (
      sym (ap (λ xs. applied column xs ts) d) ∙ T.state,
      omega (arith, ap (applied_count column) d, T.count),
      omega (arith, ap length d, T.seen),
    )
