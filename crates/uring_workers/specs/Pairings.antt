-- Glue. Which lanes are a worker's, as numbers: the two ends of a lane have the same ones.
use Rattle.std.specs.Prelude.{ℕ, List, [], ◌∷◌}
use Rattle.rtrb.specs.declared.producer.Producer.{Producer}
use Rattle.rtrb.specs.declared.consumer.Consumer.{Consumer}
use Rattle.uring_ports.specs.Lanes.{numbers_of}

module _ {T A P : Type 0} where
  abbrev pub producer_numbers : Producer T A P → List ℕ
  producer_numbers p = numbers_of p.end

  abbrev pub consumer_numbers : Consumer T A P → List ℕ
  consumer_numbers c = numbers_of c.end

-- the lanes of a worker's jobs and results, by one end of each
abbrev pub pairing_of : {J R A B P Q : Type 0} → Producer J A P → Consumer R B Q → List (List ℕ)
pairing_of jobs results = producer_numbers jobs ∷ consumer_numbers results ∷ []
