-- What is entered for several nodes, one after the other. Assumes nothing.
use Rattle.std.proofs.Common.{◌≡◌, ℕ, ◌+◌, Bool, true, false, cond, List, [], ◌∷◌, ◌++◌, subst, refl, ap, ◌∙◌, arith}
use Rattle.std.specs.List.{filter, range_with_len}
use Rattle.std.proofs.lemmas.List.{append-nil, map-id}
use Rattle.std.proofs.lemmas.List.FromFn.{filter_of_map_range_with_len_more}
use Rattle.clock.specs.declared.limits.Cluster.{Cluster}
use Rattle.relay.specs.Telling.{Entered}
use Rattle.relay.specs.Theorems.{turn_in, EnteredAll}

-- one node more, behind the others
pub one_entered_more : (c : Cluster) (round : ℕ) (values : ℕ → List ℕ) (senders old between new : List ℕ) (sender : ℕ) →
    EnteredAll c round values senders old between → Entered (turn_in c round sender) (values sender) between new →
    EnteredAll c round values (senders ++ sender ∷ []) old new
one_entered_more c round values [] old between new sender all one =
    (new, subst (λ table. Entered (turn_in c round sender) (values sender) table new) all one, refl)
one_entered_more c round values (first ∷ senders) old between new sender (next, entered, rest) one =
    (next, entered, one_entered_more c round values senders next between new sender rest one)

-- the numbers of a range that pass a test, with one number more
range_more : (test : ℕ → Bool) (n : ℕ) →
    filter test (range_with_len 0 (n + 1)) ≡ filter test (range_with_len 0 n) ++ cond (test n) (n ∷ []) []
range_more test n =
    let more = filter_of_map_range_with_len_more test (λ x. x) 0 n n (omega arith) in
    rw (map-id (range_with_len 0 (n + 1)), map-id (range_with_len 0 n)) at more

-- So a node that passes the test is entered behind those before it, and one that does not is left out.
module _ (c : Cluster) (round : ℕ) (values : ℕ → List ℕ) (test : ℕ → Bool) (n : ℕ) (old between : List ℕ)
    (so_far : EnteredAll c round values (filter test (range_with_len 0 n)) old between) where
  pub entered_too : (new : List ℕ) → test n ≡ true → Entered (turn_in c round n) (values n) between new →
      EnteredAll c round values (filter test (range_with_len 0 (n + 1))) old new
  entered_too new passes one =
      let senders = filter test (range_with_len 0 n) in
      let more : filter test (range_with_len 0 (n + 1)) ≡ senders ++ n ∷ [] = range_more test n ∙ ap (λ b. senders ++ cond b (n ∷ []) []) passes in
      rw more (one_entered_more c round values senders old between new n so_far one)

  pub left_out : test n ≡ false → EnteredAll c round values (filter test (range_with_len 0 (n + 1))) old between
  left_out fails =
      let senders = filter test (range_with_len 0 n) in
      let more : filter test (range_with_len 0 (n + 1)) ≡ senders =
      range_more test n ∙ ap (λ b. senders ++ cond b (n ∷ []) []) fails ∙ append-nil senders in
      rw more so_far
