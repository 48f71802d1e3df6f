use Rattle.std.proofs.Common.{◌≡◌, to_z, of_z, w32, inl, rules}
use Rattle.uring_files.proofs.files.Files.apply_in.Goals as goal

pub returns-in-Read-clause-outcome : goal.returns-in-Read-clause-outcome
returns-in-Read-clause-outcome g c =
    let fd : to_z w32 (of_z w32 c.in-Read.fd) ≡ c.in-Read.fd = search rules in
    rw c.in-Read.is (inl (rw fd at c.read.ensures))

pub returns-in-Write-clause-outcome : goal.returns-in-Write-clause-outcome
returns-in-Write-clause-outcome g c =
    let fd : to_z w32 (of_z w32 c.in-Write.fd) ≡ c.in-Write.fd = search rules in
    let res : to_z w32 (of_z w32 c.write.result) ≡ c.write.result = search rules in
    rw (c.in-Write.is, c.with_result-in-Write.ensures, res) (rw fd at c.write.ensures.outcome)
