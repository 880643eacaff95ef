pub mod PutPrinted
