use Rattle.desk_tests.proofs.books.the_end_of_a_month_is_not_there_yet.Goals as goal

pub of-requires-clause-reached : goal.of-requires-clause-reached
of-requires-clause-reached g c = rw c.into_ledger.ensures c.take_any-2.new.book.reached
