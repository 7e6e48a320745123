-- What good nodes' tables come to over any number of rounds, whatever faulty nodes send: they do not depend on the clocks. Assumes nothing.
use Rattle.std.proofs.Common.{◌≡◌, ℕ, zero, suc, ◌^◌, ◌<◌, Bool, cond, is_none, ◌==◌, List, [], ◌∷◌, length, map, slice_index, Some, None, Option, inl, inr, refl, ◌∙◌, arith}
use Rattle.std.specs.List.{AllByRecursion, filter, range_with_len}
use Rattle.std.proofs.lemmas.Bool.{cases_Bool, cases_lt}
use Rattle.std.proofs.lemmas.List.{length-map, length-set, get_or_past}
use Rattle.std.proofs.lemmas.List.FromFn.{length-map-range_with_len}
use Rattle.midpoint.specs.Refusals.{first_applying}
use Rattle.schedule.specs.Config.{timing_of}
use Rattle.schedule.specs.Listening.{timely, heard_as, only, heard_in}
use Rattle.schedule.specs.Listening as of_slots
use Rattle.schedule.specs.Runs.{taken_by}
use Rattle.schedule.specs.Slots.{Timing, slot_of}
use Rattle.schedule.specs.declared.limits.Schedule.{Schedule}
use Rattle.schedule.specs.declared.listening.Arrival.{Arrival}
use Rattle.schedule.specs.declared.listening.Received.{Received}
use Rattle.frame.specs.Layout.{place_in_cycle, value_count_of, frame_length_of, payload_of, values_in}
use Rattle.frame.specs.Numbers.{Bytes}
use Rattle.frame.specs.Reading.{untaken}
use Rattle.frame.specs.Theorems.{written_frame, Taken}
use Rattle.frame.specs.Writing.{FirstFit}
use Rattle.frame.specs.declared.turn.Turn.{Turn}
use Rattle.frame.proofs.Bytes.{drop_bytes}
use Rattle.frame.proofs.Frames.{round_trip}
use Rattle.frame.proofs.Payloads.{values_fit}
use Rattle.relay.specs.Tables.{table_length_of, held_for, with_entry}
use Rattle.relay.specs.Telling.{paths_of, told_from}
use Rattle.relay.specs.Telling as of_tables
use Rattle.relay.specs.Theorems.{turn_in}
use Rattle.relay.proofs.Entering.{told_fits}
use Rattle.relay.proofs.Relaying.{heard_as_told}
use Rattle.agreement.proofs.Possible.{Small, map_small, set_small}
use Rattle.node.specs.Hearing.{taken, values_of}
use Rattle.node.specs.Possible.{HoldBytes}
use Rattle.node.proofs.Filling.{put_of, put_long, put_fits, long_with_value}

-- so many zeros
abbrev pub zeros : ℕ → List ℕ
zeros count = map (λ index. 0) (range_with_len 0 count)

pub zeros_long : (count : ℕ) → length (zeros count) ≡ count
zeros_long count = length-map-range_with_len (λ index. 0) 0 count

zeros_small : (count : ℕ) → Small (zeros count)
zeros_small count = map_small (λ index. 0) (range_with_len 0 count) 0 (λ index. omega arith)

-- What a listener answers holds bytes where all that it is told of does.
abbrev HoldsBytes : Option (Received (List ℕ)) → Type 0
HoldsBytes None = Unit {0}
HoldsBytes (Some received) = Bytes received.message

abbrev AllBytes : List (Arrival (List ℕ)) → Type 0
AllBytes arrivals = AllByRecursion (λ a. Bytes a.message) arrivals

timely_bytes : (last : ℕ) (arrivals : List (Arrival (List ℕ))) → AllBytes arrivals → AllBytes (of_slots.taken last arrivals)
timely_bytes last [] all = tt
timely_bytes last (a ∷ arrivals) (first, rest) =
    elim (cases_Bool (timely last a)) [
      | inl is ↦ rw is (first, timely_bytes a.ended arrivals rest)
      | inr not ↦ rw not (timely_bytes last arrivals rest)
    ]

filter_bytes : (test : Arrival (List ℕ) → Bool) (arrivals : List (Arrival (List ℕ))) → AllBytes arrivals → AllBytes (filter test arrivals)
filter_bytes test [] all = tt
filter_bytes test (a ∷ arrivals) (first, rest) =
    elim (cases_Bool (test a)) [
      | inl is ↦ rw is (first, filter_bytes test arrivals rest)
      | inr not ↦ rw not (filter_bytes test arrivals rest)
    ]

only_bytes : (t : Timing) (slot : ℕ) (arrivals : List (Arrival (List ℕ))) → AllBytes arrivals → HoldsBytes (heard_as t slot (only arrivals))
only_bytes t slot [] all = tt
only_bytes t slot (a ∷ []) (first, rest) = first
only_bytes t slot (a ∷ b ∷ arrivals) all = tt

heard_bytes : (s : Schedule) (slot time : ℕ) (arrivals : List (Arrival (List ℕ))) → AllBytes arrivals → HoldsBytes (heard_in s slot time arrivals)
heard_bytes s slot time arrivals all =
    let whole = of_slots.came_whole s slot in
    only_bytes (timing_of s) slot (filter whole (of_slots.taken time arrivals))
    (filter_bytes whole (of_slots.taken time arrivals) (timely_bytes time arrivals all))

-- what is taken of it is that, or nothing
taken_bytes : (t : Turn) (heard : Option (Received (List ℕ))) → HoldsBytes heard → HoldsBytes (taken t heard)
taken_bytes t None holds = tt
taken_bytes t (Some received) holds =
    elim (cases_Bool (is_none (first_applying (untaken t received.message)))) [ inl is ↦ rw is holds | inr not ↦ rw not tt ]

-- so the values that are entered of it are as many as they should be, and fit into four bytes
pub values_many : (t : Turn) (heard : Option (Received (List ℕ))) → length (values_of t heard) ≡ length (paths_of t)
values_many t None = length-map (paths_of t) (λ path. 0)
values_many t (Some received) = length-map-range_with_len (slice_index (values_in (payload_of received.message))) 0 (length (paths_of t))

values_small : (t : Turn) (heard : Option (Received (List ℕ))) → HoldsBytes heard → Small (values_of t heard)
values_small t None holds = map_small (λ path. 0) (paths_of t) [] (λ path. omega arith)
values_small t (Some received) holds =
    let values = values_in (payload_of received.message) in
    let fit = values_fit (payload_of received.message) (drop_bytes 5 received.message holds) in
    map_small (slice_index values) (range_with_len 0 (length (paths_of t))) 0
    (λ i. elim (cases_lt i (length values)) [ inl h ↦ fit i 0 h | inr h ↦ rw (get_or_past values i 0 h) (omega arith) ])

-- the tables of all nodes as a round begins: the one that each reads in it, and the one that each writes
pub record Tables : Type 0 where
  pub reads : ℕ → List ℕ
  pub writes : ℕ → List ℕ

module _ (s : Schedule) (good : ℕ → Bool) (value : ℕ → ℕ → ℕ) (lies : ℕ → ℕ → ℕ → List (Arrival (List ℕ))) where
  -- What a node is told in a round: by a good node what that tells from the table that it reads, by a faulty one what comes of all that its listener is told of.
  abbrev pub lied : ℕ → ℕ → ℕ → List ℕ
  lied k p q = let t = turn_in s.cluster k q in values_of t (taken t (heard_in s (slot_of (timing_of s) k q) 0 (lies k p q)))

  abbrev pub told : (ℕ → List ℕ) → ℕ → ℕ → ℕ → List ℕ
  told read k p q = cond (good q) (told_from (turn_in s.cluster k q) (read q)) (lied k p q)

  -- the table that it has written then, and the one that it reads in the next round
  abbrev pub written : Tables → ℕ → ℕ → List ℕ
  written b k p = put_of s.cluster k (told b.reads k p) (b.writes p) s.cluster.nodes

  abbrev pub next_table : ℕ → ℕ → List ℕ → List ℕ
  next_table k p whole = cond (place_in_cycle s.cluster k == s.cluster.faults) (with_entry s.cluster [] (value (suc k) p) whole) whole

  abbrev pub tables : ℕ → Tables
  tables zero = record { reads = λ p. with_entry s.cluster [] (value 0 p) (zeros (table_length_of s.cluster)); writes = λ p. zeros (table_length_of s.cluster) }
  tables (suc k) = record { reads = λ p. next_table k p (written (tables k) k p); writes = (tables k).reads }

  -- what a good node says in a round: its frame, in memory that is as long
  abbrev pub memory : ℕ → ℕ → List ℕ
  memory k q = zeros (frame_length_of (turn_in s.cluster k q))

  abbrev pub tells : ℕ → ℕ → List ℕ
  tells k q = told_from (turn_in s.cluster k q) ((tables k).reads q)

  abbrev pub said : ℕ → ℕ → List ℕ
  said k q = written_frame (turn_in s.cluster k q) (slice_index (tells k q)) (memory k q)

  -- all tables are as long as they should be
  told_many : (read : ℕ → List ℕ) (k p q : ℕ) → length (told read k p q) ≡ length (paths_of (turn_in s.cluster k q))
  told_many read k p q =
      let t = turn_in s.cluster k q in
      elim (cases_Bool (good q)) [
        | inl is ↦ rw is (length-map (paths_of t) (held_for s.cluster (read q)))
        | inr not ↦ rw not (values_many t (taken t (heard_in s (slot_of (timing_of s) k q) 0 (lies k p q))))
      ]

  pub record Long (b : Tables) : Type 0 where
    pub reads : (p : ℕ) → length (b.reads p) ≡ table_length_of s.cluster
    pub writes : (p : ℕ) → length (b.writes p) ≡ table_length_of s.cluster

  pub tables_long : (k : ℕ) → Long (tables k)
  tables_long zero = record {
    reads = λ p. length-set (zeros (table_length_of s.cluster)) 0 (value 0 p) ∙ zeros_long (table_length_of s.cluster);
    writes = λ p. zeros_long (table_length_of s.cluster);
  }
  tables_long (suc k) =
      let before = tables_long k in record {
        reads = λ p.
            long_with_value s.cluster (place_in_cycle s.cluster k == s.cluster.faults) (value (suc k) p) (written (tables k) k p)
            (put_long s.cluster k (told (tables k).reads k p) ((tables k).writes p) s.cluster.nodes (omega arith) (told_many (tables k).reads k p) (before.writes p));
        writes = before.reads;
      }

  module _ (fits : (k p : ℕ) → value k p < 2 ^ 32) (bytes : HoldBytes lies) where
    -- and their numbers fit into four bytes
    record Fit (b : Tables) : Type 0 where
      reads : (p : ℕ) → Small (b.reads p)
      writes : (p : ℕ) → Small (b.writes p)

    lied_small : (k p q : ℕ) → Small (lied k p q)
    lied_small k p q =
        let t = turn_in s.cluster k q in
        let heard = heard_in s (slot_of (timing_of s) k q) 0 (lies k p q) in
        values_small t (taken t heard) (taken_bytes t heard (heard_bytes s (slot_of (timing_of s) k q) 0 (lies k p q) (bytes k p q)))

    told_small : (read : ℕ → List ℕ) (k p q : ℕ) → ((p : ℕ) → Small (read p)) → Small (told read k p q)
    told_small read k p q small =
        elim (cases_Bool (good q)) [
          | inl is ↦ rw is (λ i. told_fits (turn_in s.cluster k q) (read q) i (small q))
          | inr not ↦ rw not (lied_small k p q)
        ]

    next_small : (k p : ℕ) (whole : List ℕ) → Small whole → Small (next_table k p whole)
    next_small k p whole small =
        elim (cases_Bool (place_in_cycle s.cluster k == s.cluster.faults)) [
          | inl is ↦ rw is (set_small whole 0 (value (suc k) p) (fits (suc k) p) small)
          | inr not ↦ rw not small
        ]

    tables_fit : (k : ℕ) → Fit (tables k)
    tables_fit zero = record {
      reads = λ p. set_small (zeros (table_length_of s.cluster)) 0 (value 0 p) (fits 0 p) (zeros_small (table_length_of s.cluster));
      writes = λ p. zeros_small (table_length_of s.cluster);
    }
    tables_fit (suc k) =
        let before = tables_fit k in record {
          reads = λ p.
              next_small k p (written (tables k) k p)
              (put_fits s.cluster k (told (tables k).reads k p) ((tables k).writes p) s.cluster.nodes (λ q. told_small (tables k).reads k p q before.reads) (before.writes p));
          writes = before.reads;
        }

    -- So what a good node says is taken in its turn, and what is entered of it is what the node tells.
    pub says_small : (k q : ℕ) → FirstFit (slice_index (tells k q)) (value_count_of (turn_in s.cluster k q))
    says_small k q i h = told_fits (turn_in s.cluster k q) ((tables k).reads q) i ((tables_fit k).reads q)

    pub said_taken : (k q : ℕ) → Taken (turn_in s.cluster k q) (said k q)
    said_taken k q = (round_trip (turn_in s.cluster k q) (slice_index (tells k q)) (memory k q) (says_small k q)).taken

    pub said_told : (k q : ℕ) → q < s.cluster.nodes → of_tables.heard_in (turn_in s.cluster k q) (payload_of (said k q)) ≡ tells k q
    said_told k q known =
        let t = turn_in s.cluster k q in
        heard_as_told t ((tables k).reads q) (payload_of (said k q)) known (round_trip t (slice_index (tells k q)) (memory k q) (says_small k q)).same_values

-- whether a frame is taken in a turn
abbrev pub takes : Schedule → ℕ → ℕ → ℕ → List ℕ → Bool
takes s k p q message = is_none (first_applying (untaken (turn_in s.cluster k q) message))

pub takes_as : (s : Schedule) (k p q : ℕ) (heard : Option (Received (List ℕ))) → taken_by (takes s k p q) heard ≡ taken (turn_in s.cluster k q) heard
takes_as s k p q None = refl
takes_as s k p q (Some received) = refl
