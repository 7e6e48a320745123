-- Scripts that say little keep the cluster's limits. Assumes nothing.
use Rattle.std.proofs.Common.{◌≡◌, ℕ, zero, suc, ◌+◌, ◌*◌, ◌≤◌, List, [], ◌∷◌, length, replicate, ℤ, pos, unsigned_abs, None, Option, refl, ap, ◌∙◌, mul-le-mul_left, arith}
use Rattle.std.specs.Prelude.{slice_index_or}
use Rattle.std.specs.Option.{unwrap_or}
use Rattle.schedule.specs.declared.limits.Schedule.{Schedule}
use Rattle.script.specs.Rounds.{nothing_given, jitter_of, drift_of}
use Rattle.script.specs.declared.round.Given.{Given}
use Rattle.script.specs.declared.round.Round.{Round}
use Rattle.script.specs.declared.setup.Setup.{Setup}
use Rattle.cluster.specs.Playing.{span_of}
use Rattle.cluster.specs.Limits.{KeptFrom, AllSayLittle, most_of, LimitsCanBeKept}

-- an entry of which nothing is given
abbrev nothing : Option ℤ
nothing = None

-- of nothing that is given nothing is read, in a row or in a table
none_in : (n q : ℕ) → slice_index_or (replicate n nothing) q None ≡ None
none_in zero q = refl
none_in (suc n) zero = refl
none_in (suc n) (suc q) = none_in n q

none_at : (n p q : ℕ) → slice_index_or (slice_index_or (replicate n (replicate 16 nothing)) p []) q None ≡ None
none_at zero p q = refl
none_at (suc n) zero q = none_in 16 q
none_at (suc n) (suc p) q = none_at n p q

-- so nobody reads anybody wrong, and no clock runs off
no_jitter : (g : Given) (p q : ℕ) → g ≡ nothing_given → unsigned_abs (jitter_of g p q) ≡ 0
no_jitter g p q is = ap (λ g. unsigned_abs (jitter_of g p q)) is ∙ ap (λ z. unsigned_abs (unwrap_or z (pos 0))) (none_at 16 p q)

no_drift : (g : Given) (p : ℕ) → g ≡ nothing_given → unsigned_abs (drift_of g p) ≡ 0
no_drift g p is = ap (λ g. unsigned_abs (drift_of g p)) is ∙ ap (λ z. unsigned_abs (unwrap_or z (pos 0))) (none_in 16 p)

-- no round is longer than 16 of the longest slots
span_most : (s : Schedule) → span_of s ≤ 16000000000
span_most s =
    let m : s.cluster.nodes * s.length ≤ s.cluster.nodes * 1000000000 = mul-le-mul_left s.cluster.nodes s.most in
    omega (arith, m, s.cluster.most)

-- so up to 50 rounds keep the limits that say little
each_kept : (setup : Setup) (rounds : List Round) (number : ℕ) → number + length rounds ≤ 50 → AllSayLittle rounds → KeptFrom setup number rounds
each_kept setup [] number few all = tt
each_kept setup (r ∷ rest) number few (little, all) =
    let s = setup.schedule in
    let m : number * span_of s ≤ number * 16000000000 = mul-le-mul_left number (span_most s) in (
      record {
        jitters = λ p q _ _ _. omega (arith, no_jitter r.given p q little.nothing);
        drifts = λ p _. omega (arith, no_drift r.given p little.nothing);
        lies = λ p q message _ _ _ only. omega (arith, few, m, little.little p q message only);
      },
      each_kept setup rest (number + 1) (omega (arith, few)) all,
    )

-- and there is room for them
pub limits_can_be_kept : LimitsCanBeKept
limits_can_be_kept setup rounds few early short all =
    let s = setup.schedule in
    let step : most_of s ≤ 16000005000 = omega (arith, span_most s, s.cluster.steady, s.cluster.exact) in
    let m : length rounds * most_of s ≤ length rounds * 16000005000 = mul-le-mul_left (length rounds) step in
    record { few = few; first = 100000000000; early = early; room = omega (arith, short, m); each = each_kept setup rounds 0 (omega (arith, short)) all }
