use Rattle.relay.proofs.indices.+barred.Given as goal

abbrev pub decreases-barred : goal.decreases-barred
decreases-barred l = l.row_length
