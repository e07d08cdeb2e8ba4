mod RowsLoop
