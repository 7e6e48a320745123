use Rattle.std.proofs.Common.{ℕ, ◌<◌, nat_le, false, cond, take, ap, ◌≡◌, ◌∙◌, rules, tests, arith}
use Rattle.std.proofs.lemmas.Bool.{cond-false}
use Rattle.std.proofs.lemmas.List.FromFn.{take-map-range_with_len}
use Rattle.clock.specs.Setting.{reads, readings}
use Rattle.clock.proofs.Arrays.{from_fn_gives, same_places}
use Rattle.clock.proofs.limits.Clock.readings.Goals as goal

before : (n q : ℕ) → q < n → nat_le n q ≡ false
before n q l = grind (arith, tests)

pub returns : goal.returns
unfolding readings
returns c few =
    let of = reads c.args.node c.args.self.shown c.args.heard.now in
    let nodes = c.args.nodes in
    ap (take nodes)
    (from_fn_gives _ (λ q. cond (nat_le nodes q) 0 (of q)) _ (λ i y q k. search (rules, tests)) _ 16 c.from_fn.ensures.items)
    ∙ take-map-range_with_len (λ q. cond (nat_le nodes q) 0 (of q)) 0 16 nodes few
    ∙ same_places (λ q. cond (nat_le nodes q) 0 (of q)) of nodes (λ q l. cond-false _ _ _ (before nodes q l))
