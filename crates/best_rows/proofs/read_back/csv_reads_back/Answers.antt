use Rattle.best_rows.proofs.CsvReading.{header_reads_back, row_reads_back}
use Rattle.best_rows.proofs.read_back.csv_reads_back.Goals as goal

pub returns-clause-header : goal.returns-clause-header
returns-clause-header c = header_reads_back

pub returns-clause-row : goal.returns-clause-row
returns-clause-row c = row_reads_back
